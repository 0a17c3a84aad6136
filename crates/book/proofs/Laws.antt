-- The book obeys the law of runs.
use Rattle.std.proofs.Common.{◌≡◌, ℕ, ◌+◌, ◌<◌, Bool, true, false, cond, ◌&&◌, eqb, ltb, List, [], ◌∷◌, ◌++◌, length, get_or, take, set, ℤ, Some, None, Ok, Err, Option, sym, refl, ap, ◌∙◌, subst, arith}
use Rattle.std.proofs.lemmas.List.{take_more, take_more_set}
use Rattle.refusal.specs.declared.refusal.Refusal.TheVariants as refusal
use Rattle.stage.specs.Meaning.{Meaning}
use Rattle.stage.specs.Meaning as stage
use Rattle.book.specs.declared.call.Call.{Call}
use Rattle.book.specs.declared.call.Call.TheVariants as call
use Rattle.book.specs.declared.answer.Answer.TheVariants as answer
use Rattle.book.specs.Limits.{place_count, last_serial, within}
use Rattle.book.specs.Rows.{Questions, Answers, Unordered, DistinctSerials, Outcome, answered}
use Rattle.book.specs.Book.{Book, blank, next, told, tallies, rows, is_free, open_as, held_as, found}
use Rattle.book.specs.Run.{after, Replies}
use Rattle.book.specs.Law.{History, Event, event, events, open_count, held_count, held, due, Lawful, upon, Balanced}
use Rattle.book.specs.Law as law
use Rattle.book.specs.Agreement.{Agrees, Kept}
use Rattle.book.proofs.Fates.{found_open, found_held, found_free, open_same, held_same}
use Rattle.book.proofs.Steps.{agrees_next, agrees_blank}
use Rattle.book.proofs.Kept.{kept_blank, kept_next, kept_after}
use Rattle.book.proofs.Sheets.{same_rows, distinct_rows}

-- ---- each call is told what it is due

open_due : (n t : ℕ) (f l : Bool) → answered (answer.Opened n) (cond f (cond l (Ok t) (Err refusal.NoSerialLeft)) (Err refusal.NoFreePlace)) ≡ cond f (cond l (Ok (answer.Opened n t)) (Err refusal.NoSerialLeft)) (Err refusal.NoFreePlace)
open_due n t true true = refl
open_due n t true false = refl
open_due n t false l = refl

file_due : (m : Meaning) (s : ℕ) (r : ℤ) (x y z : Bool)
    → cond x (answered {A = ℤ × ℤ} (λ ends. answer.Filed s ends.0 ends.1) (cond y (cond z (Ok (m.lower r, m.upper r)) (Err (refusal.ReadingNotTaken (stage.told (m.place r)) (m.value r)))) (Err refusal.PointNotOpen))) (Err refusal.PointNotOpen)
    ≡ cond (x && y) (cond z (Ok (answer.Filed s (m.lower r) (m.upper r))) (Err (refusal.ReadingNotTaken (stage.told (m.place r)) (m.value r)))) (Err refusal.PointNotOpen)
file_due m s r true true true = refl
file_due m s r true true false = refl
file_due m s r true false z = refl
file_due m s r false y z = refl

abort_due : (s : ℕ) (x y : Bool) → cond x (answered {A = Unit {0}} (λ done. answer.Aborted s) (cond y (Ok tt) (Err refusal.PointNotOpen))) (Err refusal.PointNotOpen) ≡ cond (x && y) (Ok (answer.Aborted s)) (Err refusal.PointNotOpen)
abort_due s true true = refl
abort_due s true false = refl
abort_due s false y = refl

withdraw_due : (s : ℕ) (y : Bool) → answered {A = Unit {0}} (λ done. answer.Withdrawn s) (cond y (Ok tt) (Err refusal.SerialNotHeld)) ≡ cond y (Ok (answer.Withdrawn s)) (Err refusal.SerialNotHeld)
withdraw_due s true = refl
withdraw_due s false = refl

module _ (m : Meaning) (n : ℕ) (es : List Event) (b : Book) (g : Agrees es b) where
  pub told_due : (c : Call) → told m n b c ≡ due m n es c
  told_due (call.Open x) =
      ap (λ a. Some (cond (within x) a (Err refusal.ArgumentOutOfLimits)))
      (open_due n (b.last + 1) (found is_free b) (ltb b.last last_serial)
      ∙ ap (λ f. cond f (cond (ltb b.last last_serial) (Ok (answer.Opened n (b.last + 1))) (Err refusal.NoSerialLeft)) (Err refusal.NoFreePlace)) (found_free es b g)
      ∙ ap (λ l. cond (ltb (open_count es + held_count es) place_count) (cond (ltb l last_serial) (Ok (answer.Opened n (l + 1))) (Err refusal.NoSerialLeft)) (Err refusal.NoFreePlace)) g.last)
  told_due (call.File k s r) =
      ap Some (file_due m s r (eqb k n) (found (open_as s) b) (m.taken r)
      ∙ ap (λ y. cond (eqb k n && y) (cond (m.taken r) (Ok (answer.Filed s (m.lower r) (m.upper r))) (Err (refusal.ReadingNotTaken (stage.told (m.place r)) (m.value r)))) (Err refusal.PointNotOpen)) (found_open es b g s))
  told_due (call.Abort k s) =
      ap Some (abort_due s (eqb k n) (found (open_as s) b) ∙ ap (λ y. cond (eqb k n && y) (Ok (answer.Aborted s)) (Err refusal.PointNotOpen)) (found_open es b g s))
  told_due (call.Withdraw s) =
      ap Some (withdraw_due s (found (held_as s) b) ∙ ap (λ y. cond y (Ok (answer.Withdrawn s)) (Err refusal.SerialNotHeld)) (found_held es b g s))
  told_due call.Clear = refl
  told_due call.Verdict = refl
  told_due call.Slope = refl
  told_due (call.Value x) = refl
  told_due call.Tallies =
      let e = g.counts in let w = open_same es b g in let h = held_same es b g in
      let same : tallies b ≡ law.tallies es = cc in
      ap (λ t. Some (Ok (answer.Counted t))) same

-- ---- whole runs

weaker : (o : Option Outcome) (r : Outcome) (P Q : Type 0) → (P → Q) → Answers o P r → Answers o Q r
weaker (Some a) r P Q f e = e
weaker None r P Q f e = f e

module _ (Q : Questions) (unordered : Unordered Q) (m : Meaning) (n : ℕ) where
  -- whatever history led to a book, it goes on lawfully with a call that has its answer
  pub law_step : (h : History) (b : Book) → Agrees (events h) b → Lawful Q m n h → (c : Call) (r : Outcome) → Answers (told m n b c) (Q (rows b) c r) r
      → Lawful Q m n ((c, r) ∷ h) × Agrees (events ((c, r) ∷ h)) (next m n b c)
  unfolding events Lawful
  law_step h b g l c r e = (
    (
      subst (λ o. Answers o (Q (held (events h)) c r) r) (told_due m n (events h) b g c)
          (weaker (told m n b c) r (Q (rows b) c r) (Q (held (events h)) c r) (unordered (rows b) (held (events h)) (same_rows (events h) b g) c r) e),
      l,
    ),
    agrees_next m n (events h) b g c r (Q (rows b) c r) e,
  )

  pub run_law : (h : History) (b : Book) → Agrees (events h) b → Lawful Q m n h → (cs : List Call) (rs : List Outcome) → Replies Q m n b cs rs
      → Lawful Q m n (upon h cs rs) × Agrees (events (upon h cs rs)) (after m n b cs)
  unfolding Replies upon after
  run_law h b g l [] [] e = (l, g)
  run_law h b g l [] (r ∷ rs) e = absurd e
  run_law h b g l (c ∷ cs) [] e = absurd e
  run_law h b g l (c ∷ cs) (r ∷ rs) e = let k = law_step h b g l c r e.0 in run_law ((c, r) ∷ h) (next m n b c) k.1 k.0 cs rs e.1

  -- a run from a new book is lawful, and the book is that of its history
  pub lawful_run : (cs : List Call) (rs : List Outcome) → Replies Q m n blank cs rs → Lawful Q m n (upon [] cs rs) × Agrees (events (upon [] cs rs)) (after m n blank cs)
  unfolding events Lawful
  lawful_run cs rs e = run_law [] blank agrees_blank tt cs rs e

-- every point is filed, spoiled, aborted or open
pub balanced : (m : Meaning) (es : List Event) (b : Book) → Agrees es b → Kept m b → Balanced es
balanced m es b g k =
    let w = open_same es b g in let over = rw g.counts at k.ended in
    omega arith

-- every lawful history has its book
lawful_book : (Q : Questions) (m : Meaning) (n : ℕ) (h : History) → Lawful Q m n h → (b : Book) × Agrees (events h) b × Kept m b
unfolding events Lawful
lawful_book Q m n [] l = (blank, agrees_blank, kept_blank m)
lawful_book Q m n (e ∷ h) l =
    let k = lawful_book Q m n h l.1 in
    let b = k.0 in
    let q = Q (held (events h)) e.0 e.1 in
    let told_it : Answers (told m n b e.0) q e.1 = subst (λ o. Answers o q e.1) (sym (told_due m n (events h) b k.1 e.0)) l.0 in
    (next m n b e.0, agrees_next m n (events h) b k.1 e.0 e.1 q told_it, kept_next m b k.2 n e.0)

pub balanced_law : (Q : Questions) (m : Meaning) (n : ℕ) (h : History) → Lawful Q m n h → Balanced (events h)
balanced_law Q m n h l = let k = lawful_book Q m n h l in balanced m (events h) k.0 k.1 k.2

-- ---- every book that calls lead to

some_answer : (o : Option Outcome) → (r : Outcome) × Answers o (Unit {0}) r
some_answer (Some a) = (a, refl)
some_answer None = (Ok answer.Line, tt)

-- there is a history that it agrees with
history_of : (m : Meaning) (n : ℕ) (es : List Event) (b : Book) → Agrees es b → (cs : List Call) → (es' : List Event) × Agrees es' (after m n b cs)
unfolding after
history_of m n es b g [] = (es, g)
history_of m n es b g (c ∷ cs) =
    let a = some_answer (told m n b c) in
    history_of m n (event c a.0 ∷ es) (next m n b c) (agrees_next m n es b g c a.0 (Unit {0}) a.1) cs

pub distinct_run : (m : Meaning) (n : ℕ) (cs : List Call) → DistinctSerials (rows (after m n blank cs))
distinct_run m n cs = let h = history_of m n [] blank agrees_blank cs in distinct_rows h.0 (after m n blank cs) h.1

pub kept_run : (m : Meaning) (n : ℕ) (cs : List Call) → Kept m (after m n blank cs)
kept_run m n cs = kept_after m n blank (kept_blank m) cs

-- ---- one call more, for a loop over the calls

module _ (m : Meaning) (n : ℕ) where
  pub after_push : (b : Book) (cs : List Call) (c : Call) → after m n b (cs ++ c ∷ []) ≡ next m n (after m n b cs) c
  unfolding after
  after_push b [] c = refl
  after_push b (x ∷ cs) c = after_push (next m n b x) cs c

  pub after_more : (b : Book) (cs : List Call) (i : ℕ) (d : Call) → i < length cs → after m n b (take (i + 1) cs) ≡ next m n (after m n b (take i cs)) (get_or cs i d)
  after_more b cs i d lt = ap (after m n b) (take_more cs i d lt) ∙ after_push b (take i cs) (get_or cs i d)

  pub replies_push : (Q : Questions) (b : Book) (cs : List Call) (rs : List Outcome) (c : Call) (r : Outcome) → Replies Q m n b cs rs
      → Answers (told m n (after m n b cs) c) (Q (rows (after m n b cs)) c r) r → Replies Q m n b (cs ++ c ∷ []) (rs ++ r ∷ [])
  unfolding after Replies
  replies_push Q b [] [] c r e a = (a, tt)
  replies_push Q b [] (y ∷ rs) c r e a = absurd e
  replies_push Q b (x ∷ cs) [] c r e a = absurd e
  replies_push Q b (x ∷ cs) (y ∷ rs) c r e a = (e.0, replies_push Q (next m n b x) cs rs c r e.1 a)

  pub replies_none : (Q : Questions) (b : Book) → Replies Q m n b [] []
  unfolding Replies
  replies_none Q b = tt

  pub replies_more : (Q : Questions) (b : Book) (cs : List Call) (rs : List Outcome) (i : ℕ) (d : Call) (r : Outcome) → i < length cs → i < length rs
      → Replies Q m n b (take i cs) (take i rs) → Answers (told m n (after m n b (take i cs)) (get_or cs i d)) (Q (rows (after m n b (take i cs))) (get_or cs i d) r) r
      → Replies Q m n b (take (i + 1) cs) (take (i + 1) (set rs i r))
  replies_more Q b cs rs i d r lt lt' e a =
      subst (λ xs. Replies Q m n b xs (take (i + 1) (set rs i r))) (sym (take_more cs i d lt))
      (subst (Replies Q m n b (take i cs ++ get_or cs i d ∷ [])) (sym (take_more_set rs i r lt')) (replies_push Q b (take i cs) (take i rs) (get_or cs i d) r e a))
