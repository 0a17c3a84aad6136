-- The figures of lines and tallies.
use Rattle.std.proofs.Common.{◌≡◌, List, ℤ, pos, negsuc, ◌<ℤ◌, sym, refl, ◌∙◌, inl, arith}
use Rattle.std.specs.List.{AllByRecursion as All}
use Rattle.std.proofs.ByRecursion.{all-has}
use Rattle.std.proofs.lemmas.Int.{ints}
use borrow.Author.Differences.{product_is}
use Rattle.algebra.proofs.Ring.{linear}
use Rattle.rational.specs.Rational.{whole}
use Rattle.rational.specs.Line.{Line, slope, value_at}
use Rattle.lines.specs.Sheet.{Measurement, Meets, Admissible, Least, Greatest, OneArgument}
use Rattle.lines.proofs.Triples.{broken_low}
use Rattle.lines.proofs.Pairs.{two_conflict}
use Rattle.lines.proofs.Unbounded.{AllAt, no_greatest_slope, no_least_slope, no_greatest_value, no_least_value}
use Rattle.book.specs.Run.{after}
use Rattle.figures.specs.Figures.{LineFigures, TallyFigures, halves, read, first, second, straight, touching, level}

-- a line by its three numbers
abbrev drawn : (p q d : ℤ) → pos 0 <ℤ d → Line
drawn p q d h = record { p = p; q = q; d = d; above = h }

-- a line that meets each of a list is admissible
admissible : (s : List Measurement) (l : Line) → All (Meets l) s → Admissible s l
admissible s l all m h = all-has (Meets l) s m all h

least_slope : Least slope straight (halves (pos 19))
least_slope =
    let l = drawn (pos 19) (pos 10) (pos 2) (omega (arith, ints)) in (
      (l, admissible straight l ((record { le = tt }, record { le = tt }), ((record { le = tt }, record { le = tt }), ((record { le = tt }, record { le = tt }), tt))), refl),
      λ l adm. let a = adm first (0, omega arith, λ d. refl) in let c = adm (read 3 (pos 20) (pos 200) (omega (arith, ints))) (2, omega arith, λ d. refl) in
          omega (arith, linear, product_is, a.1, c.0),
    )

greatest_slope : Greatest slope straight (halves (pos 21))
greatest_slope =
    let l = drawn (pos 21) (negsuc 9) (pos 2) (omega (arith, ints)) in (
      (l, admissible straight l ((record { le = tt }, record { le = tt }), ((record { le = tt }, record { le = tt }), ((record { le = tt }, record { le = tt }), tt))), refl),
      λ l adm. let a = adm first (0, omega arith, λ d. refl) in let c = adm (read 3 (pos 20) (pos 200) (omega (arith, ints))) (2, omega arith, λ d. refl) in
          omega (arith, linear, product_is, a.0, c.1),
    )

least_value : Least (λ l. value_at l (pos 30)) straight (whole (pos 290))
least_value =
    let l = drawn (pos 19) (pos 10) (pos 2) (omega (arith, ints)) in (
      (l, admissible straight l ((record { le = tt }, record { le = tt }), ((record { le = tt }, record { le = tt }), ((record { le = tt }, record { le = tt }), tt))), refl),
      λ l adm. let a = adm first (0, omega arith, λ d. refl) in let c = adm (read 3 (pos 20) (pos 200) (omega (arith, ints))) (2, omega arith, λ d. refl) in
          omega (arith, linear, product_is, a.1, c.0),
    )

greatest_value : Greatest (λ l. value_at l (pos 30)) straight (whole (pos 310))
greatest_value =
    let l = drawn (pos 21) (negsuc 9) (pos 2) (omega (arith, ints)) in (
      (l, admissible straight l ((record { le = tt }, record { le = tt }), ((record { le = tt }, record { le = tt }), ((record { le = tt }, record { le = tt }), tt))), refl),
      λ l adm. let a = adm first (0, omega arith, λ d. refl) in let c = adm (read 3 (pos 20) (pos 200) (omega (arith, ints))) (2, omega arith, λ d. refl) in
          omega (arith, linear, product_is, a.0, c.1),
    )

one_slope : Least slope touching (whole (pos 11)) × Greatest slope touching (whole (pos 11))
one_slope =
    let l = drawn (pos 11) (negsuc 4) (pos 1) (omega (arith, ints)) in
    let ok = admissible touching l ((record { le = tt }, record { le = tt }), ((record { le = tt }, record { le = tt }), ((record { le = tt }, record { le = tt }), tt))) in (
      (
        (l, ok, refl),
        λ l adm. let b = adm second (1, omega arith, λ d. refl) in let c = adm (read 3 (pos 20) (pos 220) (omega (arith, ints))) (2, omega arith, λ d. refl) in
            omega (arith, linear, product_is, b.1, c.0),
      ),
      (
        (l, ok, refl),
        λ l adm. let a = adm first (0, omega arith, λ d. refl) in let b = adm second (1, omega arith, λ d. refl) in
            omega (arith, linear, product_is, a.0, b.1),
      ),
    )

one_value : Least (λ l. value_at l (pos 10)) level (whole (pos 105)) × Greatest (λ l. value_at l (pos 10)) level (whole (pos 105))
one_value =
    let l = drawn (pos 0) (pos 105) (pos 1) (omega (arith, ints)) in
    let ok = admissible level l ((record { le = tt }, record { le = tt }), ((record { le = tt }, record { le = tt }), tt)) in (
      ((l, ok, refl), λ l adm. let b = adm (read 4 (pos 10) (pos 110) (omega (arith, ints))) (1, omega arith, λ d. refl) in omega (arith, linear, product_is, b.0)),
      ((l, ok, refl), λ l adm. let a = adm second (0, omega arith, λ d. refl) in omega (arith, linear, product_is, a.1)),
    )

all_at_10 : AllAt level (pos 10)
all_at_10 m h = all-has (λ (m : Measurement). m.argument ≡ pos 10) level m (refl, (refl, tt)) h

one_argument : OneArgument level
one_argument a b ha hb = all_at_10 a ha ∙ sym (all_at_10 b hb)

pub line_figures : LineFigures
line_figures = record {
  three = broken_low first second (read 3 (pos 20) (pos 300) (omega (arith, ints))) (record { le = tt }) (record { le = tt }) (record { lt = tt });
  least_slope = least_slope;
  greatest_slope = greatest_slope;
  least_value = least_value;
  greatest_value = greatest_value;
  one_slope = one_slope;
  past_it = broken_low first second (read 3 (pos 20) (pos 221) (omega (arith, ints))) (record { le = tt }) (record { le = tt }) (record { lt = tt });
  two = (two_conflict second (read 4 (pos 10) (pos 111) (omega (arith, ints)))).1 (refl, inl (record { lt = tt }));
  one_value = one_value;
  no_slope = λ b. (no_least_slope level one_argument b, no_greatest_slope level one_argument b);
  no_value = λ b. (no_least_value level (pos 10) all_at_10 (pos 11) (λ e. omega (arith, ints)) b, no_greatest_value level (pos 10) all_at_10 (pos 11) (λ e. omega (arith, ints)) b);
}

pub tally_figures : TallyFigures
unfolding after
tally_figures = refl
