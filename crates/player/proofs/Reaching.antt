-- How a run goes on, step by step.
use Rattle.std.proofs.Common.{◌≡◌, ℕ, ◌+◌, ◌-◌, ◌≤◌, Bool, true, false, List, [], ◌∷◌, ◌++◌, drop, ℤ, Some, None, Option, sym, refl, ap, ◌∙◌, subst, append_assoc, arith, drop-drop}
use Rattle.stage.specs.Meaning.{Meaning}
use Rattle.book.specs.declared.call.Call.{Call}
use Rattle.book.specs.Rows.{Outcome}
use Rattle.book.specs.Book.{Book}
use Rattle.register.specs.Page.{page}
use Rattle.channel.specs.declared.channel.Channel.{Channel}
use Rattle.channel.specs.Steps.{Standing}
use Rattle.channel.specs.declared.point.Point.{Point}
use Rattle.book.specs.declared.call.Call.TheVariants as call
use Rattle.frames.specs.Tape.{Said, frame, reading, abort}
use Rattle.frames.specs.Tape as tape
use Rattle.printout.specs.declared.line.Line.{Line}
use Rattle.printout.specs.declared.line.Line.TheVariants.{Refused}
use Rattle.printout.specs.Text.{text}
use Rattle.player.specs.Lines.{telling}
use Rattle.player.specs.Script.{Script, Onward, handed, before, script, interrupts, giving_up, asked, reason, cleared_away, answered, dealt}
use Rattle.player.specs.Steps.{Player, LedBy, Made, Asked, Reached, Run, Continues, Deals, idle}
use Rattle.player.proofs.Making.{led_on}

-- whatever calls led to the book before, this one goes on from there
abbrev Goes : Meaning → ℕ → Book → Call → Outcome → Book → Type 0
Goes m n b c r b' = (cs : List Call) (rs : List Outcome) → LedBy m n cs rs b → LedBy m n (cs ++ c ∷ []) (rs ++ r ∷ []) b'

before_before : (cs ds : List Call) (t u : List ℕ) (s : Script) → before cs t (before ds u s) ≡ before (cs ++ ds) (t ++ u) s
before_before cs ds t u s i = record { calls = sym (append_assoc cs ds s.calls) i; text = sym (append_assoc t u s.text) i }

module _ (m : Meaning) (n : ℕ) (all : List Said) where
  -- a call was made
  pub made_on : (o o' : Option Point) (left left' : List Said) (b b' : Book) (t : List ℕ) (c : Call) (why : List ℕ) (line : Line) (r : Outcome)
      → ((r : Outcome) (rs : List Outcome) → o' ≡ handed r → script o left (r ∷ rs) ≡ before (c ∷ []) (text (telling c why r)) (script o' left' rs))
      → Goes m n b c r b' → o' ≡ handed r → text line ≡ text (telling c why r)
      → Reached m n all o left b t → Reached m n all o' left' b' (t ++ text line)
  made_on o o' left left' b b' t c why line r step goes point_is line_is g =
      record {
        calls = g.calls ++ c ∷ [];
        answers = g.answers ++ r ∷ [];
        led = goes g.calls g.answers g.led;
        onward = λ rs.
            ap (script None all) (append_assoc g.answers (r ∷ []) rs)
            ∙ g.onward (r ∷ rs)
            ∙ ap (before g.calls t) (step r rs point_is)
            ∙ before_before g.calls (c ∷ []) t (text (telling c why r)) (script o' left' rs)
            ∙ (λ i. before (g.calls ++ c ∷ []) (t ++ sym line_is i) (script o' left' rs));
      }

  -- a frame was refused
  pub refused_on : (o o' : Option Point) (left left' : List Said) (b : Book) (t u : List ℕ)
      → ((rs : List Outcome) → script o left rs ≡ before [] u (script o' left' rs))
      → Reached m n all o left b t → Reached m n all o' left' b (t ++ u)
  refused_on o o' left left' b t u step g =
      record {
        calls = g.calls;
        answers = g.answers;
        led = g.led;
        onward = λ rs.
            g.onward rs
            ∙ ap (before g.calls t) (step rs)
            ∙ (λ i. record { calls = g.calls ++ (script o' left' rs).calls; text = sym (append_assoc t u (script o' left' rs).text) i });
      }

module _ {S : Type 0} (meaning : S → Meaning) where
  pub after_call : (old : Player S) (o : Option Point) → old.pending ≡ o → (new : Player S) (left left' : List Said) (c : Call) (why : List ℕ) (line : Line)
      → ((r : Outcome) (rs : List Outcome) → new.pending ≡ handed r → script o left (r ∷ rs) ≡ before (c ∷ []) (text (telling c why r)) (script new.pending left' rs))
      → Made meaning old.channel c why new.channel new.pending line
      → Continues meaning old left new left' (text line)
  after_call old o e new left left' c why line step made m n all t run =
      let b = page old.channel.register in
      let b' = page new.channel.register in
      record {
        number = ap (λ (s : Standing S). s.number) made.performs.stands ∙ run.number;
        stage = ap (λ (s : Standing S). meaning s.stage) made.performs.stands ∙ run.stage;
        reached = made_on m n all o new.pending left left' b b' t c why line made.answer step
            (subst (λ n. Goes m n b c made.answer b') run.number (subst (λ m. Goes m old.channel.number b c made.answer b') run.stage (led_on meaning old.channel new.channel c made.answer made.performs)))
            made.point_is made.line_is (subst (λ o. Reached m n all o left b t) e run.reached);
      }

  pub after_refusal : (old : Player S) (o : Option Point) → old.pending ≡ o → (left left' : List Said) (u : List ℕ)
      → ((rs : List Outcome) → script o left rs ≡ before [] u (script None left' rs))
      → Continues meaning old left (idle old.channel) left' u
  after_refusal old o e left left' u step m n all t run = record {
    number = run.number;
    stage = run.stage;
    reached = refused_on m n all o None left left' (page old.channel.register) t u step (subst (λ o. Reached m n all o left (page old.channel.register) t) e run.reached);
  }

  pub both : (p q r : Player S) (left left' left'' : List Said) (a b : List ℕ)
      → Continues meaning p left q left' a → Continues meaning q left' r left'' b → Continues meaning p left r left'' (a ++ b)
  both p q r left left' left'' a b first second m n all t run =
      subst (Run meaning m n all r left'') (append_assoc t a b) (second m n all (t ++ a) (first m n all t run))

-- ---- each step of a script

abbrev on : List Said → Onward
on ss o rs = script o ss rs

-- the open point is aborted first
pub interrupted : (p : Point) (s : Said) (ss : List Said) → interrupts s ≡ true → (r : Outcome) (rs : List Outcome) → None ≡ handed r
    → script (Some p) (s ∷ ss) (r ∷ rs) ≡ before (giving_up p ∷ []) (text (telling (giving_up p) [] r)) (script None (s ∷ ss) rs)
unfolding script
interrupted p s ss stop r rs e =
    let next : Onward = λ o rs. dealt s o rs (on ss) in
    ap (λ b. cleared_away b (Some p) (r ∷ rs) next) stop
    ∙ ap (λ o. before (giving_up p ∷ []) (text (telling (giving_up p) [] r)) (next o rs)) (sym e)
    ∙ ap (λ b. before (giving_up p ∷ []) (text (telling (giving_up p) [] r)) (cleared_away b None rs next)) (sym stop)

-- a reading, or an abort, for the open point
pub filed : (p : Point) (x : ℤ) (k : ℕ) (ss : List Said) (r : Outcome) (rs : List Outcome) (o : Option Point) → o ≡ handed r
    → script (Some p) (frame (reading x) k ∷ ss) (r ∷ rs) ≡ before (call.File p.number p.serial x ∷ []) (text (telling (call.File p.number p.serial x) [] r)) (script o ss rs)
unfolding script
filed p x k ss r rs o e = ap (λ o. before (call.File p.number p.serial x ∷ []) (text (telling (call.File p.number p.serial x) [] r)) (script o ss rs)) (sym e)

pub given_up : (p : Point) (why : List ℕ) (k : ℕ) (ss : List Said) (r : Outcome) (rs : List Outcome) (o : Option Point) → o ≡ handed r
    → script (Some p) (frame (abort why) k ∷ ss) (r ∷ rs) ≡ before (giving_up p ∷ []) (text (telling (giving_up p) why r)) (script o ss rs)
unfolding script
given_up p why k ss r rs o e = ap (λ o. before (giving_up p ∷ []) (text (telling (giving_up p) why r)) (script o ss rs)) (sym e)

-- neither has a point
pub unread : (x : ℤ) (k : ℕ) (ss : List Said) (rs : List Outcome) → script None (frame (reading x) k ∷ ss) rs ≡ before [] (text (Refused 13)) (script None ss rs)
unfolding script
unread x k ss rs = refl

pub unaborted : (why : List ℕ) (k : ℕ) (ss : List Said) (rs : List Outcome) → script None (frame (abort why) k ∷ ss) rs ≡ before [] (text (Refused 13)) (script None ss rs)
unfolding script
unaborted why k ss rs = refl

-- any frame that makes a call while no point is open
not_open : (b : Bool) (rs : List Outcome) (next : Onward) → cleared_away b None rs next ≡ next None rs
not_open true rs next = refl
not_open false rs next = refl

pub called : (m : tape.Meaning) (c : Call) → asked None m ≡ Some c → (k : ℕ) (ss : List Said) (r : Outcome) (rs : List Outcome) (o : Option Point) → o ≡ handed r
    → script None (frame m k ∷ ss) (r ∷ rs) ≡ before (c ∷ []) (text (telling c (reason m) r)) (script o ss rs)
unfolding script
called m c a k ss r rs o e =
    not_open (interrupts (frame m k)) (r ∷ rs) (λ o rs. dealt (frame m k) o rs (on ss))
    ∙ ap (λ q. answered q (reason m) (r ∷ rs) (on ss)) a
    ∙ ap (λ o. before (c ∷ []) (text (telling c (reason m) r)) (script o ss rs)) (sym e)

-- a frame while no point is open
module _ {S : Type 0} (meaning : S → Meaning) (old new : Channel S) (point : Option Point) (line : Line) where
  abbrev then : Player S
  then = record { channel = new; pending = point }

  by_call : (m : tape.Meaning) (c : Call) → asked None m ≡ Some c → reason m ≡ [] → Made meaning old c [] new point line → Deals meaning (idle old) m then (text line)
  by_call m c asks none made ss k =
      after_call meaning (idle old) None refl then (frame m k ∷ ss) ss c [] line
      (λ r rs e. called m c asks k ss r rs point e ∙ ap (λ why. before (c ∷ []) (text (telling c why r)) (script point ss rs)) none) made

  unasked : (m : tape.Meaning) → ((k : ℕ) (ss : List Said) (rs : List Outcome) → script None (frame m k ∷ ss) rs ≡ before [] (text (Refused 13)) (script None ss rs))
      → Asked meaning old None new point line → Deals meaning (idle old) m then (text line)
  unasked m step (same, none, tells) ss k =
      subst (λ l. Continues meaning (idle old) (frame m k ∷ ss) then ss (text l)) (sym tells)
      (subst (λ (p : Player S). Continues meaning (idle old) (frame m k ∷ ss) p ss (text (Refused 13))) (λ i. record { channel = sym same i; pending = sym none i })
      (after_refusal meaning (idle old) None refl (frame m k ∷ ss) ss (text (Refused 13)) (step k ss)))

  pub deals : (m : tape.Meaning) → Asked meaning old (asked None m) new point line → Deals meaning (idle old) m then (text line)
  deals (tape.load x) made = by_call (tape.load x) (call.Open x) refl refl made
  deals (tape.reading x) none = unasked (tape.reading x) (unread x) none
  deals (tape.abort why) none = unasked (tape.abort why) (unaborted why) none
  deals (tape.withdraw s) made = by_call (tape.withdraw s) (call.Withdraw s) refl refl made
  deals tape.verdict made = by_call tape.verdict call.Verdict refl refl made
  deals tape.slope made = by_call tape.slope call.Slope refl refl made
  deals (tape.value x) made = by_call (tape.value x) (call.Value x) refl refl made
  deals tape.tallies made = by_call tape.tallies call.Tallies refl refl made
  deals tape.clear made = by_call tape.clear call.Clear refl refl made

-- a frame while a point is open: its reading, its abort, or what interrupts it
module _ {S : Type 0} (meaning : S → Meaning) (old : Player S) (p : Point) (pending : old.pending ≡ Some p) (new : Channel S) where
  pub read : (line : Line) (x : ℤ) → Made meaning old.channel (call.File p.number p.serial x) [] new None line → Deals meaning old (tape.reading x) (idle new) (text line)
  read line x made ss k = after_call meaning old (Some p) pending (idle new) (frame (reading x) k ∷ ss) ss (call.File p.number p.serial x) [] line (λ r rs. filed p x k ss r rs None) made

  pub abandoned : (line : Line) (why : List ℕ) → Made meaning old.channel (giving_up p) why new None line → Deals meaning old (tape.abort why) (idle new) (text line)
  abandoned line why made ss k = after_call meaning old (Some p) pending (idle new) (frame (abort why) k ∷ ss) ss (giving_up p) why line (λ r rs. given_up p why k ss r rs None) made

  pub closed : (line : Line) → Made meaning old.channel (giving_up p) [] new None line → (s : Said) (ss : List Said) → interrupts s ≡ true → Continues meaning old (s ∷ ss) (idle new) (s ∷ ss) (text line)
  closed line made s ss stop = after_call meaning old (Some p) pending (idle new) (s ∷ ss) (s ∷ ss) (giving_up p) [] line (interrupted p s ss stop) made

-- ---- room

-- what is the same from one place on is the same from a later one on
pub rest_later : (xs ys : List ℕ) (a r : ℕ) → a ≤ r → drop a xs ≡ drop a ys → drop r xs ≡ drop r ys
rest_later xs ys a r h e =
    let n : a + (r - a) ≡ r = omega arith in
    ap (λ k. drop k xs) (sym n) ∙ sym (drop-drop (r - a) a xs) ∙ ap (drop (r - a)) e ∙ drop-drop (r - a) a ys ∙ ap (λ k. drop k ys) n
