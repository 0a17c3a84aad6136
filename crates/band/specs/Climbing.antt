-- The ends of the row that is found rise with the reading.
use Rattle.std.specs.Prelude.{◌≡◌, ℕ, suc, ◌-◌, ◌<◌, Bool, true, false, cond, not, ◌&&◌, ◌||◌, List, [], ◌∷◌, length, ℤ, ◌≤ℤ◌, fold, nat_lt, refl}
use Rattle.std.proofs.Common.{sym, ap, ◌∙◌, subst, arith}
use Rattle.std.specs.Int.Signed.{le_z}
use Rattle.std.proofs.lemmas.Int.{ints}
use Rattle.std.proofs.lemmas.Bool.Decides.{nat_tests}
use Rattle.algebra.proofs.Ring.{linear, le_test, test_le}
use Rattle.exact.specs.Limits.{least_end, greatest_end}
use Rattle.stage.specs.Meaning.{Sound}
use Rattle.band.specs.declared.row.Row.{Row}
use Rattle.band.specs.Faults.{zeros, row, in_order, follows, row_fault, Faultless}
use Rattle.band.specs.Rows.{row_at, banded}
use Rattle.band.specs.Positions.{some_rows, rows_fine}

-- neither end of a is above that of b
abbrev Under : Row → Row → Type 0
Under a b = (a.lower ≤ℤ b.lower) × (a.upper ≤ℤ b.upper)

under_trans : (a b c : Row) → Under a b → Under b c → Under a c
under_trans a b c p q = (omega (arith, linear, p.0, q.0), omega (arith, linear, p.1, q.1))

under_refl : (a : Row) → Under a a
under_refl a = (omega (arith, linear), omega (arith, linear))

abbrev Climbs : Row → List Row → Type 0
Climbs p [] = Unit {0}
Climbs p (n ∷ ns) = Under p n × Climbs n ns

follows_under : (a b : Row) → follows a b ≡ true → Under a b
follows_under a b h = (grind (arith, ints), grind (arith, ints))

climbs : (p : Row) (ns : List Row) → ((k : ℕ) → suc k < length (p ∷ ns) → follows (row (p ∷ ns) k) (row (p ∷ ns) (suc k)) ≡ true) → Climbs p ns
climbs p [] h = tt
climbs p (n ∷ ns) h = (follows_under p n (h 0 (omega arith)), climbs n ns (λ k lt. h (suc k) (omega arith)))

-- what a row that is not at fault is
fault_parts : (i f : Bool) (k : ℕ) → (not i || (nat_lt 0 k && not f)) ≡ false → (i ≡ true) × (0 < k → f ≡ true)
fault_parts i f k h = (grind (arith, nat_tests), λ lt. grind (arith, nat_tests))

fine_row : (rows : List Row) (k : ℕ) → row_fault rows k ≡ false → in_order (row rows k) ≡ true
fine_row rows k h = (fault_parts (in_order (row rows k)) (follows (row rows (k - 1)) (row rows k)) k h).0

fine_next : (rows : List Row) (k : ℕ) → row_fault rows (suc k) ≡ false → follows (row rows k) (row rows (suc k)) ≡ true
fine_next rows k h =
    let same : suc k - 1 ≡ k = omega arith in
    ap (λ j. follows (row rows j) (row rows (suc k))) (sym same) ∙ (fault_parts (in_order (row rows (suc k))) (follows (row rows (suc k - 1)) (row rows (suc k))) (suc k) h).1 (omega arith)

-- one more row of the search
abbrev step : ℤ → Row → Row → Row
step r found next = cond (le_z next.first r) next found

-- the row that is found is the first candidate or one of the rows
found_one : (P : Row → Type 0) (r : ℤ) (z : Row) (rows : List Row) → P z → ((k : ℕ) → k < length rows → P (row rows k)) → P (fold (step r) z rows)
found_one P r z [] h all = h
found_one P r z (n ∷ ns) h all = found_one P r (step r z n) ns (either (le_z n.first r) h (all 0 (omega arith))) (λ k lt. all (suc k) (omega arith))
  where
    either : (b : Bool) → P z → P n → P (cond b n z)
    either true p q = q
    either false p q = p

rises : (a b : ℤ) → a ≤ℤ b → (low high last : Row) (ns : List Row) → Under low high → Under high last → Climbs last ns → Under (fold (step a) low ns) (fold (step b) high ns)
rises a b ab low high last [] lh hl c = lh
rises a b ab low high last (n ∷ ns) lh hl c =
    here (le_z n.first a) (le_z n.first b) (λ e. le_test {a = n.first} {b = b} (omega (arith, linear, test_le {a = n.first} {b = a} e)))
    (λ x y xy yn. rises a b ab x y n ns xy yn c.1)
  where
    here : (x y : Bool) → (x ≡ true → y ≡ true) → ((x y : Row) → Under x y → Under y n → Under (fold (step a) x ns) (fold (step b) y ns))
        → Under (fold (step a) (cond x n low) ns) (fold (step b) (cond y n high) ns)
    here true true t rest = rest n n (under_refl n) (under_refl n)
    here true false t rest = let e : false ≡ true = t refl in let z : ◌≡◌ {A = ℕ} 0 1 = cc in absurd (omega arith)
    here false true t rest = rest low n (under_trans low high n lh (under_trans high last n hl c.0)) (under_refl n)
    here false false t rest = rest low high lh (under_trans high last n hl c.0)

-- the first row is found by every reading from its first on
from_first : (r : ℤ) (p : Row) (ns : List Row) → p.first ≤ℤ r → row_at (p ∷ ns) r ≡ fold (step r) p ns
from_first r p ns h = ap (λ b. fold (step r) (cond b p zeros) ns) (le_test {a = p.first} {b = r} h)

rows_rise : (rows : List Row) (last a b : ℤ) → Faultless rows last → a ≤ℤ b → (row rows 0).first ≤ℤ a → Under (row_at rows a) (row_at rows b)
rows_rise [] last a b h ab first = absurd (omega (arith, (some_rows [] last h).0))
rows_rise (p ∷ ns) last a b h ab first =
    let c = climbs p ns (λ k lt. fine_next (p ∷ ns) k (rows_fine (p ∷ ns) last h (suc k) lt)) in
    let up = rises a b ab p p p ns (under_refl p) (under_refl p) c in
    let ea = from_first a p ns first in
    let eb = from_first b p ns (omega (arith, linear, first, ab)) in
    subst (λ x. Under x (row_at (p ∷ ns) b)) (sym ea) (subst (λ y. Under (fold (step a) p ns) y) (sym eb) up)

-- every row that is found is in order
found_fine : (rows : List Row) (last r : ℤ) → Faultless rows last → in_order (row_at rows r) ≡ true
found_fine rows last r h = found_one (λ x. in_order x ≡ true) r zeros rows refl (λ k lt. fine_row rows k (rows_fine rows last h k lt))

row_in_order : (x : Row) → in_order x ≡ true → (least_end ≤ℤ x.lower) × (x.lower ≤ℤ x.upper) × (x.upper ≤ℤ greatest_end)
row_in_order x h = (grind (arith, ints), grind (arith, ints), grind (arith, ints))

pub both : (a b c d : ℤ) → (le_z a b && le_z c d) ≡ true → (a ≤ℤ b) × (c ≤ℤ d)
both a b c d h = (grind (arith, ints), grind (arith, ints))

pub joined : (a b c d : ℤ) → a ≤ℤ b → c ≤ℤ d → (le_z a b && le_z c d) ≡ true
joined a b c d h k = grind (arith, ints)

pub banded_sound : (rows : List Row) (last : ℤ) → Faultless rows last → Sound (banded rows last)
banded_sound rows last h = record {
  ordered = λ r t. (row_in_order (row_at rows r) (found_fine rows last r h)).1;
  within = λ r t. let f = row_in_order (row_at rows r) (found_fine rows last r h) in (f.0, f.2);
  between = λ a b c ab bc ta tc.
      joined (row rows 0).first b b last
      (omega (arith, linear, (both (row rows 0).first a a last ta).0, ab))
      (omega (arith, linear, (both (row rows 0).first c c last tc).1, bc));
  rising = λ a b ab ta tb. rows_rise rows last a b h ab (both (row rows 0).first a a last ta).0;
}
