-- What is found among the places is found on the page, and what changes there changes here.
use Rattle.std.proofs.Common.{◌≡◌, ℕ, ◌+◌, ◌<◌, Bool, true, false, cond, not, List, [], ◌∷◌, map, length, get_or, set, ℤ, Some, None, Ok, count_by, Option, Result, sym, refl, ap, subst, ◌∙◌, arith}
use Rattle.std.specs.List.{prefix_len, position_or_len}
use Rattle.std.proofs.lemmas.List.{map-set, get_or-map, length-set}
use Rattle.std.proofs.lemmas.List.Sums.{sum_by-cons, sum_by-set}
use Rattle.std.proofs.lemmas.Bool.{ltb-true}
use Rattle.refusal.specs.declared.refusal.Refusal.{Refusal}
use Rattle.exact.specs.declared.set.UncertaintySet.{UncertaintySet}
use Rattle.stage.specs.declared.not_taken.NotTaken.{NotTaken}
use Rattle.stage.specs.Meaning.{Meaning, answer}
use Rattle.stage.proofs.Answered.{taken_ends}
use Rattle.places.specs.declared.place.Place.{Place}
use Rattle.places.specs.declared.place.Place.TheVariants as place
use Rattle.places.specs.declared.status.Status.{Status}
use Rattle.places.specs.declared.status.Status.TheVariants as status
use Rattle.places.specs.Search.{has, index, held_with}
use Rattle.places.specs.Search as places
use Rattle.book.specs.Book.{Spot, Free, is_free, is_open, is_held, open_as, held_as, first, found, hold, files_next, files_told}
use Rattle.book.proofs.Spots.{one, first_passes}
use Rattle.register.specs.declared.register.Register.{Register}
use Rattle.register.specs.Page.{spot, page}

-- a status as a test of a spot
abbrev pub seeks : Status → Spot → Bool
seeks status.Free = is_free
seeks (status.Open s) = open_as s
seeks (status.Held s) = held_as s

seen : (w : Status) (p : Place) → seeks w (spot p) ≡ has w p
seen status.Free place.Free = refl
seen (status.Open t) place.Free = refl
seen (status.Held t) place.Free = refl
seen w p = refl

leading_map : (w : Status) (ps : List Place) → prefix_len (λ s. not (seeks w s)) (map spot ps) ≡ position_or_len (has w) ps
leading_map w [] = refl
leading_map w (p ∷ ps) = let e = seen w p in let h = leading_map w ps in rw (e, h)

count_map : (t : Spot → Bool) (u : Place → Bool) → ((p : Place) → t (spot p) ≡ u p) → (ps : List Place) → count_by t (map spot ps) ≡ count_by u ps
count_map t u e [] = refl
count_map t u e (p ∷ ps) =
    let o : ◌≡◌ {A = ℕ} (cond (t (spot p)) 1 0) (cond (u p) 1 0) = ap (λ b. cond b 1 0) (e p) in
    omega (arith, sum_by-cons (λ s. cond (t s) 1 0) (spot p) (map spot ps), sum_by-cons (λ q. cond (u q) 1 0) p ps, count_map t u e ps, o)

pub open_count : (ps : List Place) → count_by is_open (map spot ps) ≡ count_by places.is_open ps
open_count = count_map is_open places.is_open same
  where
    same : (p : Place) → is_open (spot p) ≡ places.is_open p
    same place.Free = refl
    same (place.Open s x) = refl
    same (place.Held s x r u) = refl

pub held_count : (ps : List Place) → count_by is_held (map spot ps) ≡ count_by places.is_held ps
held_count = count_map is_held places.is_held same
  where
    same : (p : Place) → is_held (spot p) ≡ places.is_held p
    same place.Free = refl
    same (place.Open s x) = refl
    same (place.Held s x r u) = refl

-- so the first place of a status has the index of the first such spot
pub index_page : (w : Status) (r : Register) → index w r.places.all ≡ cond (found (seeks w) (page r)) (Some (first (seeks w) (page r))) None
index_page w r = let l = leading_map w r.places.all in let k = r.long in cc

some_by : (b : Bool) (i n : ℕ) → ◌≡◌ {A = Option ℕ} (Some i) (cond b (Some n) None) → (b ≡ true) × (n ≡ i)
some_by true i n e = (refl, cc)
some_by false i n e = absurd (let z : ◌≡◌ {A = ℕ} 0 1 = cc in omega arith)

-- what a place that was found is
pub record Found (r : Register) (w : Status) (i : ℕ) : Type 0 where
  pub there : found (seeks w) (page r) ≡ true
  pub first_is : first (seeks w) (page r) ≡ i
  pub inside : i < length r.places.all
  pub is : (d : Place) → has w (get_or r.places.all i d) ≡ true

pub somewhere : (r : Register) (w : Status) (i : ℕ) → Some i ≡ index w r.places.all → Found r w i
somewhere r w i e =
    let ps = r.places.all in
    let b = some_by (found (seeks w) (page r)) i (first (seeks w) (page r)) (e ∙ index_page w r) in
    let at : position_or_len (has w) ps ≡ i = sym (leading_map w ps) ∙ b.1 in
    let lt : i < length ps = omega (arith, ltb-true _ _ b.0, b.1, r.long) in
    record { there = b.0; first_is = b.1; inside = lt; is = λ d. subst (λ n. has w (get_or ps n d) ≡ true) at (first_passes (has w) ps d (omega (arith, lt, at))) }

-- ---- a reading that is taken, on the page

hold_spot : (x : ℤ) (u : UncertaintySet) (p : Place) → spot (held_with x u p) ≡ hold x u.lower u.upper (spot p)
hold_spot x u place.Free = refl
hold_spot x u (place.Open s y) = refl
hold_spot x u (place.Held s y x' u') = refl

pub files_page : (r : Register) (i : ℕ) (m : Meaning) (s : ℕ) (x : ℤ) (u : UncertaintySet) (q d : Place) → Some i ≡ index (status.Open s) r.places.all → q ≡ held_with x u (get_or r.places.all i d)
    → ◌≡◌ {A = Result (ℤ × ℤ) NotTaken} (Ok (u.lower, u.upper)) (answer m x)
    → record { spots = map spot (set r.places.all i q); last = r.last; counts = record r.counts { filed = r.counts.filed + 1 } } ≡ files_next m (page r) s x
files_page r i m s x u q d at is told =
    let f = somewhere r (status.Open s) i at in
    let a = f.there in let b = f.first_is in
    let t = taken_ends m x u.lower u.upper told in
    let taken = t.0 in let low = t.1 in let up = t.2 in
    let there = get_or-map spot r.places.all i d Free f.inside in
    let h = map-set spot r.places.all i q ∙ ap (set (page r).spots i) (ap spot is ∙ hold_spot x u (get_or r.places.all i d)) in
    cc

-- and its ends are what the book tells
pub files_ends : (r : Register) (i : ℕ) (m : Meaning) (s : ℕ) (x : ℤ) (u : UncertaintySet) → Some i ≡ index (status.Open s) r.places.all
    → ◌≡◌ {A = Result (ℤ × ℤ) NotTaken} (Ok (u.lower, u.upper)) (answer m x)
    → ◌≡◌ {A = Result (ℤ × ℤ) Refusal} (Ok (u.lower, u.upper)) (files_told m (page r) s x)
files_ends r i m s x u at told =
    let f = somewhere r (status.Open s) i at in
    let a = f.there in
    let t = taken_ends m x u.lower u.upper told in
    let taken = t.0 in let low = t.1 in let up = t.2 in
    cc

-- ---- how many places are open

-- whether a place of a status is open
abbrev pub opens : Status → ℕ
opens status.Free = 0
opens (status.Open s) = 1
opens (status.Held s) = 0

status_opens : (w : Status) (p : Place) → has w p ≡ true → one (places.is_open p) ≡ opens w
status_opens status.Free place.Free e = refl
status_opens (status.Open t) (place.Open s x) e = refl
status_opens (status.Held t) (place.Held s x r u) e = refl
status_opens w p e = absurd (let z : ◌≡◌ {A = ℕ} 0 1 = cc in omega arith)

pub open_after : (r : Register) (w : Status) (i : ℕ) (q : Place) → Some i ≡ index w r.places.all → (b : Bool) → places.is_open q ≡ b
    → count_by places.is_open (set r.places.all i q) + opens w ≡ count_by places.is_open r.places.all + one b
open_after r w i q found b e =
    let f = somewhere r w i found in
    let k = sum_by-set (λ p. one (places.is_open p)) r.places.all i q place.Free f.inside in
    let o = status_opens w (get_or r.places.all i place.Free) (f.is place.Free) in
    let n : one (places.is_open q) ≡ one b = ap one e in
    omega (arith, k, o, n)

-- with a reading, no place is open
pub held_shut : (r : ℤ) (u : UncertaintySet) (p : Place) → places.is_open (held_with r u p) ≡ false
held_shut r u place.Free = refl
held_shut r u (place.Open s x) = refl
held_shut r u (place.Held s x r' u') = refl

-- what the check needs of the page
pub ruleset pages = (index_page, map-set, open_count, held_count)
