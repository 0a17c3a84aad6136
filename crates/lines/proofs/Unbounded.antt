-- Measurements at one argument bound neither the slope nor the value at another argument: a line may turn about them.
use Rattle.std.proofs.Common.{◌≡◌, ◌≢◌, List, [], ◌∷◌, map, ℤ, pos, ◌+ℤ◌, ◌-ℤ◌, ◌*ℤ◌, neg_ℤ, ◌<ℤ◌, refl, ap, subst, arith}
use Rattle.std.specs.List.{ContainsAt as Has}
use Rattle.std.proofs.lemmas.Int.{by_lt_z}
use Rattle.algebra.proofs.Ring.{linear, ring, distrib_right, neg_left, neg_right, product_positive}
use Rattle.rational.specs.Rational.{Rational, ◌≼◌, opposite}
use Rattle.rational.specs.Line.{Line, slope, value_at}
use Rattle.lines.specs.Sheet.{Measurement, Meets, Greatest, Least, OneArgument}
use Rattle.lines.specs.Mirror.{mirrored, mirror}
use Rattle.lines.proofs.Members.{has_none, has_first, each_of_map}
use Rattle.lines.proofs.Possible.{meets_in, meets_out}
use Rattle.lines.proofs.Mirror.{greatest_in_mirror, slope_odd, value_odd}

-- all have this argument
abbrev pub AllAt : List Measurement → ℤ → Type 0
AllAt s x = (m : Measurement) → Has s m → m.argument ≡ x

-- the line turned about its value at x
abbrev turned : ℤ → ℤ → Line → Line
turned x k l = record { p = l.p +ℤ k; q = l.q -ℤ k *ℤ x; d = l.d; above = l.above }

abbrev raised : Rational → ℤ → Rational
raised r t = record { num = r.num +ℤ t; den = r.den; above = r.above }

turned_meets : (x k : ℤ) (l : Line) (m : Measurement) → m.argument ≡ x → Meets l m → Meets (turned x k l) m
turned_meets x k l m e h =
    let (low, high) = meets_out l.p l.d l.above l.q m h in
    let kept : (l.p +ℤ k) *ℤ m.argument +ℤ (l.q -ℤ k *ℤ x) ≡ l.p *ℤ m.argument +ℤ l.q =
    omega (arith, linear, distrib_right l.p k m.argument, ap (λ z. k *ℤ z) e) in
    meets_in (l.p +ℤ k) l.d l.above (l.q -ℤ k *ℤ x) m (omega (arith, linear)) (omega (arith, linear))

-- f is a quantity that grows by t / d when the line turns by k / d about x
module _ (f : Line → Rational) (x k t : ℤ) (gains : pos 0 <ℤ t) (grows : (l : Line) → f (turned x k l) ≡ raised (f l) t) where
  no_greatest : (s : List Measurement) → AllAt s x → (b : Rational) → Greatest f s b → ⊥
  no_greatest s here b ((l, ok, e), most) =
      let le = subst (λ r. r ≼ b) (grows l) (most (turned x k l) (λ m at. turned_meets x k l m (here m at) (ok m at))) in
      omega (arith, linear, distrib_right (f l).num t b.den, product_positive gains b.above)

  no_least : ((l : Line) → f (mirror l) ≡ opposite (f l)) → (s : List Measurement) → AllAt s x → (b : Rational) → Least f s b → ⊥
  no_least odd s here b least =
      no_greatest (map mirrored s) (each_of_map (λ m. m.argument ≡ x) mirrored s here) (opposite b) (greatest_in_mirror s f odd b least)

pub none_at : (x : ℤ) → AllAt [] x
none_at x m at = has_none m at

pub all_at : (s : List Measurement) → OneArgument s → (m : Measurement) → Has s m → AllAt s m.argument
all_at s one m at k atK = one k m atK at

one_at : (s : List Measurement) → OneArgument s → (x : ℤ) × AllAt s x
one_at [] one = (pos 0, none_at (pos 0))
one_at (m ∷ s) one = (m.argument, all_at (m ∷ s) one m (has_first m s))

module _ (s : List Measurement) (one : OneArgument s) (b : Rational) where
  pub no_greatest_slope : Greatest slope s b → ⊥
  no_greatest_slope = let (x, here) = one_at s one in no_greatest slope x (pos 1) (pos 1) (omega (arith, linear)) (λ l. refl) s here b

  pub no_least_slope : Least slope s b → ⊥
  no_least_slope = let (x, here) = one_at s one in no_least slope x (pos 1) (pos 1) (omega (arith, linear)) (λ l. refl) slope_odd s here b

square_positive : (z : ℤ) → z ≢ pos 0 → pos 0 <ℤ (z *ℤ z)
square_positive z other = by_lt_z (pos 0) z (λ h. product_positive h h) (λ le. by_lt_z z (pos 0)
    (λ h. let up : pos 0 <ℤ neg_ℤ z = omega (arith, linear) in omega (arith, linear, product_positive up up, neg_left z (neg_ℤ z), neg_right z z))
    (λ ge. absurd (other (omega (arith, linear)))))

-- the argument x of all measurements is not X
module _ (s : List Measurement) (x : ℤ) (here : AllAt s x) (X : ℤ) (elsewhere : x ≢ X) (b : Rational) where
  grows : (l : Line) → value_at (turned x (X -ℤ x) l) X ≡ raised (value_at l X) ((X -ℤ x) *ℤ (X -ℤ x))
  grows l = ap (λ n. let r : Rational = record { num = n; den = l.d; above = l.above } in r) (sum l.p l.q X x)
    where
      sum : (p q X x : ℤ) → (p +ℤ (X -ℤ x)) *ℤ X +ℤ (q -ℤ (X -ℤ x) *ℤ x) ≡ p *ℤ X +ℤ q +ℤ (X -ℤ x) *ℤ (X -ℤ x)
      sum p q X x = simp ring (omega (arith, linear))

  away : pos 0 <ℤ ((X -ℤ x) *ℤ (X -ℤ x))
  away = square_positive (X -ℤ x) (λ e. elsewhere (omega (arith, linear)))

  pub no_greatest_value : Greatest (λ l. value_at l X) s b → ⊥
  no_greatest_value = no_greatest (λ l. value_at l X) x (X -ℤ x) ((X -ℤ x) *ℤ (X -ℤ x)) away grows s here b

  pub no_least_value : Least (λ l. value_at l X) s b → ⊥
  no_least_value = no_least (λ l. value_at l X) x (X -ℤ x) ((X -ℤ x) *ℤ (X -ℤ x)) away grows (value_odd X) s here b
