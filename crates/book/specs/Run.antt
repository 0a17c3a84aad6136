-- A list of calls, one after the other, as the bench book takes it.
use Rattle.std.specs.Prelude.{ℕ, List, [], ◌∷◌}
use Rattle.stage.specs.Meaning.{Meaning}
use Rattle.book.specs.declared.call.Call.{Call}
use Rattle.book.specs.Rows.{Questions, Answers, Outcome}
use Rattle.book.specs.Book.{Book, next, told, rows}

-- the book after a list of calls
unfoldable pub after : Meaning → ℕ → Book → List Call → Book
after m n b [] = b
after m n b (c ∷ cs) = after m n (next m n b c) cs

-- each call of a list has its answer, as the book then stands
unfoldable pub Replies : Questions → Meaning → ℕ → Book → List Call → List Outcome → Type 0
Replies Q m n b [] [] = Unit {0}
Replies Q m n b [] (r ∷ rs) = ⊥
Replies Q m n b (c ∷ cs) [] = ⊥
Replies Q m n b (c ∷ cs) (r ∷ rs) = Answers (told m n b c) (Q (rows b) c r) r × Replies Q m n (next m n b c) cs rs
