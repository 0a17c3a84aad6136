-- The places of a register hold a sheet of the rows of its page.
use Rattle.std.proofs.Common.{◌≡◌, List, [], ◌∷◌, map, ◌≤ℤ◌, sym, refl, ap, subst}
use mathlib.Core.HLevel.{is_prop→PathP}
use lib.Dec.{T_prop}
use lib.Signed.{le_z}
use Rattle.std.specs.List.{ContainsAt as Has}
use Rattle.lines.specs.Sheet.{Measurement}
use Rattle.lines.proofs.Members.{has_map, each_of_map}
use Rattle.places.specs.declared.place.Place.{Place}
use Rattle.places.specs.declared.place.Place.TheVariants.{Free, Open, Held}
use Rattle.places.specs.Held.{held}
use Rattle.book.specs.Rows.{Unordered, DistinctSerials}
use Rattle.book.specs.Book.{held_rows}
use Rattle.register.specs.Page.{spot}
use Rattle.channel.specs.Lines.{row, SheetOf, OfLines}

rows_of : (ps : List Place) → map row (held ps) ≡ held_rows (map spot ps)
unfolding held_rows
rows_of [] = refl
rows_of (Free ∷ ps) = rows_of ps
rows_of (Open s x ∷ ps) = rows_of ps
rows_of (Held s x r u ∷ ps) = ap (λ xs. record { serial = s; argument = x.value; lower = u.lower; upper = u.upper } ∷ xs) (rows_of ps)

-- a measurement is known by its row
same_measurement : (a b : Measurement) → row a ≡ row b → a ≡ b
same_measurement a b e =
    λ i. record {
      serial = (e i).serial;
      argument = (e i).argument;
      lower = (e i).lower;
      upper = (e i).upper;
      ordered = is_prop→PathP (λ i. (e i).lower ≤ℤ (e i).upper) (λ i p q j. record { le = T_prop (le_z (e i).lower (e i).upper) p.le q.le j }) a.ordered b.ordered i;
    }

pub sheet_of : (ps : List Place) → DistinctSerials (held_rows (map spot ps)) → SheetOf (held_rows (map spot ps)) (held ps)
sheet_of ps distinct =
    let only : (m : Measurement) → Has (held ps) m → Has (held_rows (map spot ps)) (row m) =
    λ m h. subst (λ xs. Has xs (row m)) (rows_of ps) (has_map row (held ps) m h) in
    record {
      only = only;
      all = λ x h. each_of_map (λ x. (m : Measurement) × Has (held ps) m × (row m ≡ x)) row (held ps) (λ m k. (m, k, refl)) x (subst (λ xs. Has xs x) (sym (rows_of ps)) h);
      distinct = λ a b ha hb e. same_measurement a b (distinct (row a) (row b) (only a ha) (only b hb) e);
    }

-- the answers go by what is held, in whatever order
pub unordered : Unordered OfLines
unordered xs ys same c r told =
    let (s, sheet, says) = told in
    (s, record { only = λ m h. (same (row m)).0 (sheet.only m h); all = λ x h. sheet.all x ((same x).1 h); distinct = sheet.distinct }, says)
