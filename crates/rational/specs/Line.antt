-- Straight lines between an argument and a value.
use Rattle.std.specs.Prelude.{ℤ, pos, ◌+ℤ◌, ◌*ℤ◌, ◌<ℤ◌}
use Rattle.rational.specs.Rational.{Rational}

-- y = (p x + q) / d with whole p, q and d, d from 1 up
pub record Line : Type 0 where
  pub p : ℤ
  pub q : ℤ
  pub d : ℤ
  pub above : pos 0 <ℤ d

abbrev pub slope : Line → Rational
slope l = record { num = l.p; den = l.d; above = l.above }

abbrev pub shift : Line → Rational
shift l = record { num = l.q; den = l.d; above = l.above }

-- the value at a whole argument
abbrev pub value_at : Line → ℤ → Rational
value_at l x = record { num = l.p *ℤ x +ℤ l.q; den = l.d; above = l.above }
