use Rattle.std.proofs.Common.{◌≡◌, ℕ, true, false, List, Some, None, arith, rules, tests}
use Rattle.std.proofs.lemmas.Iterator.{first_from_Range}
use Rattle.band.specs.declared.row.Row.{Row}
use Rattle.band.specs.Faults.{row_fault}
use Rattle.band.specs.Positions.{first_row, first_last, no_fault}
use Rattle.band.proofs.fault.first_fault.Goals as goal

-- the row at an index is at fault, and it is not
abbrev Bad : List Row → ℕ → Type 0
Bad rows i = row_fault rows i ≡ true

abbrev Fine : List Row → ℕ → Type 0
Fine rows i = row_fault rows i ≡ false

pub overflow_cast-result : goal.overflow_cast-result
overflow_cast-result c =
    let rows = c.args.rows.now in
    let (low, below, bad, fine) = first_from_Range _ _ _ (Some c.in-Some.i) (Bad rows) (Fine rows) c.in-Some.ensures.ran (λ x q k. search (rules, tests)) (λ x q k. search (rules, tests)) in
    search rules

pub overflow_add-result : goal.overflow_add-result
overflow_add-result c =
    let rows = c.args.rows.now in
    let (low, below, bad, fine) = first_from_Range _ _ _ (Some c.in-Some.i) (Bad rows) (Fine rows) c.in-Some.ensures.ran (λ x q k. search (rules, tests)) (λ x q k. search (rules, tests)) in
    search rules

pub returns-in-Some : goal.returns-in-Some
returns-in-Some c =
    let rows = c.args.rows.now in
    let (low, below, bad, fine) = first_from_Range _ _ _ (Some c.in-Some.i) (Bad rows) (Fine rows) c.in-Some.ensures.ran (λ x q k. search (rules, tests)) (λ x q k. search (rules, tests)) in
    first_row rows c.args.last c.in-Some.i (search rules) below (λ k lt. fine k (omega arith) lt) bad

pub returns-then-last-rows : goal.returns-then-last-rows
returns-then-last-rows c =
    let rows = c.args.rows.now in
    let fine = first_from_Range _ _ _ None (Bad rows) (Fine rows) c.in_default.ensures.ran (λ x q k. search (rules, tests)) (λ x q k. search (rules, tests)) in
    first_last rows c.args.last (search rules) (λ k lt. fine k (omega arith) lt) (search rules)

pub returns : goal.returns
returns c =
    let rows = c.args.rows.now in
    let fine = first_from_Range _ _ _ None (Bad rows) (Fine rows) c.in_default.ensures.ran (λ x q k. search (rules, tests)) (λ x q k. search (rules, tests)) in
    no_fault rows c.args.last (search rules) (λ k lt. fine k (omega arith) lt) (search rules)
