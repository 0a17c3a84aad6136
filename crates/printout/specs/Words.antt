-- The parts of a line.
use Rattle.std.specs.Prelude.{ℕ, cond, ◌&&◌, List, [], ◌∷◌, map, ℤ, nat_le}
use Rattle.std.specs.List.{flat_map}
use Rattle.std.specs.Fmt.{signed_decimal}

-- each number after a blank
abbrev pub fields : List ℤ → List ℕ
fields = flat_map (λ n. 32 ∷ signed_decimal n)

-- a byte as it is printed: from 32 to 126 as it is, any other as `?`
abbrev pub shown : ℕ → ℕ
shown b = cond (nat_le 32 b && nat_le b 126) b 63

-- a reason after a blank; nothing of an empty one
abbrev pub remark : List ℕ → List ℕ
remark [] = []
remark (b ∷ reason) = 32 ∷ map shown (b ∷ reason)
