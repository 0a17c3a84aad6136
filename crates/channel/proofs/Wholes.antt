-- A whole run, one call after the other.
use Rattle.std.proofs.Common.{◌≡◌, ℕ, ◌+◌, ◌<◌, List, [], length, get_or, take, drop, set, sym, refl, ap, ◌∙◌, subst, arith, drop-drop, drop-set-lt}
use Rattle.stage.specs.Meaning.{Meaning}
use Rattle.book.specs.declared.call.Call.{Call}
use Rattle.book.specs.declared.call.Call.TheVariants as call
use Rattle.book.specs.Rows.{Outcome, Answers, DistinctSerials}
use Rattle.book.specs.Book.{Book, blank, rows, tallies}
use Rattle.book.specs.Law.{Event, events, upon, tallies as counted_tallies}
use Rattle.book.specs.Run.{after, Replies}
use Rattle.book.specs.Agreement.{Agrees}
use Rattle.book.proofs.Laws.{told_due, lawful_run, balanced_law, distinct_run, replies_none, after_more, replies_more}
use Rattle.register.specs.Page.{page}
use Rattle.channel.specs.declared.channel.Channel.{Channel}
use Rattle.channel.specs.Lines.{OfLines}
use Rattle.channel.specs.Steps.{Standing, standing, goes, told, Performs}
use Rattle.channel.specs.Runs.{Whole}
use Rattle.channel.proofs.Sheets.{unordered}
use Rattle.channel.proofs.Going.{of_lines}

-- a run by its replies
module _ (m : Meaning) (n : ℕ) where
  counted : (b : Book) (es : List Event) → Agrees es b → tallies b ≡ counted_tallies es
  counted b es agrees = let e = told_due m n es b agrees call.Tallies in cc

  pub whole_run : (cs : List Call) (rs : List Outcome) → Replies OfLines m n blank cs rs → Whole m n cs rs (after m n blank cs)
  whole_run cs rs replies =
      let law = lawful_run OfLines unordered m n cs rs replies in
      record { book = refl; replies = replies; led = law; tallies = counted (after m n blank cs) (events (upon [] cs rs)) law.1; balanced = balanced_law OfLines m n (upon [] cs rs) law.0 }

-- how a new channel stands, and how it stands after a list of calls, with its answers
abbrev pub fresh : {S : Type 0} → ℕ → S → Standing S
fresh n stage = record { number = n; stage = stage; page = blank }

pub record Ran {S : Type 0} (meaning : S → Meaning) (n : ℕ) (stage : S) (cs : List Call) (rs : List Outcome) (end : Channel S) : Type 0 where
  pub stands : standing end ≡ record { number = n; stage = stage; page = after (meaning stage) n blank cs }
  pub replies : Replies OfLines (meaning stage) n blank cs rs

module _ {S : Type 0} (meaning : S → Meaning) (n : ℕ) (stage : S) where
  pub ran_none : (start : Channel S) → standing start ≡ fresh n stage → Ran meaning n stage [] [] start
  unfolding after
  ran_none start e = record { stands = e; replies = replies_none (meaning stage) n OfLines blank }

  -- one call more
  pub ran_more : (cs : List Call) (rs : List Outcome) (i : ℕ) (d : Call) (k k' : Channel S) (r : Outcome) → i < length cs → i < length rs
      → Ran meaning n stage (take i cs) (take i rs) k → Performs meaning k (get_or cs i d) r k' → Ran meaning n stage (take (i + 1) cs) (take (i + 1) (set rs i r)) k'
  ran_more cs rs i d k k' r lt lt' ran did =
      let m = meaning stage in let c = get_or cs i d in
      let distinct = subst (λ (x : Standing S). DistinctSerials (rows x.page)) (sym ran.stands) (distinct_run m n (take i cs)) in
      let answer = of_lines (told meaning (standing k) c) k.register c r distinct did.told in
      record {
        stands = did.stands ∙ ap (λ x. goes meaning x c) ran.stands ∙ ap (λ b. record { number = n; stage = stage; page = b }) (sym (after_more m n blank cs i d lt));
        replies = replies_more m n OfLines blank cs rs i d r lt lt' ran.replies (subst (λ (x : Standing S). Answers (told meaning x c) (OfLines (rows x.page) c r) r) ran.stands answer);
      }

  pub whole : (cs : List Call) (rs : List Outcome) (end : Channel S) → Ran meaning n stage cs rs end → Whole (meaning stage) n cs rs (page end.register)
  whole cs rs end ran = subst (λ (x : Standing S). Whole (meaning stage) n cs rs x.page) (sym ran.stands) (whole_run (meaning stage) n cs rs ran.replies)

-- the answers that are not written yet
pub rest_more : (xs ys : List Outcome) (i : ℕ) (r : Outcome) → drop i xs ≡ drop i ys → drop (i + 1) (set xs i r) ≡ drop (i + 1) ys
rest_more xs ys i r e = drop-set-lt (i + 1) xs i r (omega arith) ∙ sym (drop-drop 1 i xs) ∙ ap (drop 1) e ∙ drop-drop 1 i ys
