-- A tape that is cut at its most bytes, or at its own end.
use Rattle.std.proofs.Common.{◌≡◌, ℕ, min, List, length, take, ap, ◌∙◌}
use Rattle.std.proofs.lemmas.List.{take_min}

pub cut : (n : ℕ) (tape : List ℕ) → n ≡ min 4096 (length tape) → take n tape ≡ take 4096 tape
cut n tape e = ap (λ k. take k tape) e ∙ take_min 4096 tape
