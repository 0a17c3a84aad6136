-- What is held, as the questions about lines are told of it.
use Rattle.std.specs.Prelude.{◌≡◌, ℕ, ◌↔◌, List, ℤ, Some, None, Ok, Err, Option, Result}
use Rattle.std.specs.List.{ContainsAt as Has}
use Rattle.refusal.specs.declared.refusal.Refusal.{Refusal}
use Rattle.book.specs.declared.call.Call.{Call}
use Rattle.book.specs.declared.answer.Answer.{Answer}

-- a held measurement: its serial, its argument, and the ends of its set
pub record Row : Type 0 where
  pub serial : ℕ
  pub argument : ℤ
  pub lower : ℤ
  pub upper : ℤ

-- the answer to a call, or its refusal
abbrev pub Outcome : Type 0
Outcome = Result Answer Refusal

-- a result by the answer that tells it
abbrev pub answered : {A : Type 0} → (A → Answer) → Result A Refusal → Outcome
answered f (Ok x) = Ok (f x)
answered f (Err e) = Err e

-- which answers a question about lines may have, from the rows that are held
abbrev pub Questions : Type 1
Questions = List Row → Call → Outcome → Type 0

-- a call has the answer that is told; where none is, one that the question may have
abbrev pub Answers : Option Outcome → Type 0 → Outcome → Type 0
Answers (Some told) question r = r ≡ told
Answers None question r = question

-- two lists have the same rows, in whatever order
abbrev pub SameRows : List Row → List Row → Type 0
SameRows xs ys = (x : Row) → Has xs x ↔ Has ys x

-- the answers go by what is held, and not by its order
abbrev pub Unordered : Questions → Type 0
Unordered Q = (xs ys : List Row) → SameRows xs ys → (c : Call) (r : Outcome) → Q xs c r → Q ys c r

-- no two rows have one serial
abbrev pub DistinctSerials : List Row → Type 0
DistinctSerials rows = (x y : Row) → Has rows x → Has rows y → x.serial ≡ y.serial → x ≡ y
