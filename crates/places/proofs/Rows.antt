-- What a pass over the places has seen of the measurements that they hold.
use Rattle.std.proofs.Common.{◌≡◌, ℕ, ◌+◌, ◌<◌, ◌≤◌, List, [], ◌∷◌, length, get_or, take, Some, None, Option, sym, subst}
use Rattle.std.specs.Prelude.{IfSome}
use Rattle.std.specs.List.{All, ContainsAt as Has}
use Rattle.std.proofs.lemmas.List.{take_all}
use Rattle.std.proofs.lemmas.List.Elements.{All-nil, All-cons, All-head, All-tail, All-more, All-get_or}
use Rattle.lines.specs.Sheet.{Measurement}
use Rattle.lines.proofs.Members.{has_none, has_first, has_next, each_of_more}
use Rattle.places.specs.declared.place.Place.{Place}
use Rattle.places.specs.declared.place.Place.TheVariants.{Free, Open, Held}
use Rattle.places.specs.declared.sample.Sample.{Sample}
use Rattle.places.specs.Held.{held}
use Rattle.places.specs.Samples.{measured, sampled}

-- so it is of the sample, where there is one
abbrev pub Fits : (Measurement → Type 0) → Option Sample → Type 0
Fits P o = IfSome o (λ a. P (measured a))

abbrev pub At : (Measurement → Type 0) → Place → Type 0
At P p = Fits P (sampled p)

-- so it is of each measurement in the first n places
abbrev pub Row : (Measurement → Type 0) → List Place → ℕ → Type 0
Row P ps n = (m : Measurement) → Has (held (take n ps)) m → P m

module _ (P : Measurement → Type 0) where
  each_held : (ps : List Place) → All (At P) ps → (m : Measurement) → Has (held ps) m → P m
  each_held [] each m at = has_none m at
  each_held (Free ∷ ps) each m at = each_held ps (All-tail (At P) Free ps each) m at
  each_held (Open s x ∷ ps) each m at = each_held ps (All-tail (At P) (Open s x) ps each) m at
  each_held (Held s x r u ∷ ps) each m at =
      let p = Held s x r u in each_of_more P _ (held ps) (All-head (At P) p ps each) (each_held ps (All-tail (At P) p ps each)) m at

  held_each : (ps : List Place) → ((m : Measurement) → Has (held ps) m → P m) → All (At P) ps
  held_each [] so = All-nil (At P)
  held_each (Free ∷ ps) so = All-cons (At P) Free ps tt (held_each ps so)
  held_each (Open s x ∷ ps) so = All-cons (At P) (Open s x) ps tt (held_each ps so)
  held_each (Held s x r u ∷ ps) so =
      All-cons (At P) (Held s x r u) ps (so _ (has_first _ (held ps))) (held_each ps (λ m at. so m (has_next _ m (held ps) at)))

  module _ (ps : List Place) where
    -- one place more
    pub row_more : (n : ℕ) (d : Place) (o : Option Sample) → n < length ps → o ≡ sampled (get_or ps n d) → Fits P o → Row P ps n → Row P ps (n + 1)
    row_more n d o lt is here row = each_held (take (n + 1) ps) (All-more (At P) ps n d lt (held_each (take n ps) row) (subst (Fits P) is here))

    -- one place more that holds nothing
    pub row_same : (n : ℕ) → n < length ps → (d : Place) → sampled (get_or ps n d) ≡ None → Row P ps n → Row P ps (n + 1)
    row_same n lt d none = row_more n d None lt (sym none) tt

    pub row_all : (n : ℕ) → length ps ≤ n → Row P ps n → (m : Measurement) → Has (held ps) m → P m
    row_all n full = subst (λ s. (m : Measurement) → Has (held s) m → P m) (take_all n ps full)

-- what a place holds is held
pub has_here : (ps : List Place) (n : ℕ) (d : Place) (a : Sample) → n < length ps → Some a ≡ sampled (get_or ps n d) → Has (held ps) (measured a)
has_here ps n d a lt is =
    let P = Has (held ps) in subst (Fits P) (sym is) (All-get_or (At P) ps n d lt (held_each P ps (λ m at. at)))
