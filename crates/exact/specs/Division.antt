-- Division that rounds down, and division that rounds up.
use Rattle.std.specs.Prelude.{ℕ, ◌/◌, ◌↔◌, ℤ, pos, negsuc, ◌*ℤ◌, neg_ℤ, ◌≤ℤ◌}

-- w / v rounded down
abbrev pub floor : ℤ → ℕ → ℤ
floor (pos n) v = pos (n / v)
floor (negsuc n) v = negsuc (n / v)

-- w / v rounded up
abbrev pub ceiling : ℤ → ℕ → ℤ
ceiling w v = neg_ℤ (floor (neg_ℤ w) v)

-- r is w / v rounded down: the whole numbers up to r are those whose product with v is at most w
abbrev pub RoundsDown : ℤ → ℤ → ℤ → Type 0
RoundsDown w v r = (n : ℤ) → ((n *ℤ v) ≤ℤ w) ↔ (n ≤ℤ r)

-- r is w / v rounded up: the whole numbers from r on are those whose product with v is at least w
abbrev pub RoundsUp : ℤ → ℤ → ℤ → Type 0
RoundsUp w v r = (n : ℤ) → (w ≤ℤ (n *ℤ v)) ↔ (r ≤ℤ n)
