-- What a tape says, frame after frame.
use Rattle.std.proofs.Common.{◌≡◌, ℕ, zero, suc, ◌+◌, ◌-◌, ◌*◌, ◌/◌, ◌%◌, ◌<◌, ◌≤◌, Bool, true, cond, eqb, ltb, List, [], ◌∷◌, length, take, drop, Some, None, Ok, Err, Option, sym, refl, ap, ◌∙◌, subst, arith, length-take, ℤ, Bor}
use Rattle.std.proofs.lemmas.Bool.{cond_both}
use Rattle.refusal.specs.Numbers.{number}
use Rattle.refusal.specs.declared.refusal.Refusal.{Refusal}
use Rattle.refusal.specs.declared.refusal.Refusal.TheVariants.{FrameCutShort, FrameUnknown}
use Rattle.frames.specs.Tape.{Meaning, load, reading, abort, withdraw, verdict, slope, value, tallies, clear, Said, ended, frame, cut_short, unknown, said, moved, of_kind, signed, argument, number as bits}
use Rattle.frames.specs.Answers.{answer, meant, meaning as says}
use Rattle.frames.specs.declared.frame.Frame.{Frame}
use Rattle.frames.specs.declared.frame.Frame.TheVariants as read
use Rattle.book.specs.Rows.{Outcome}
use Rattle.printout.specs.declared.line.Line.{Line}
use Rattle.printout.specs.declared.line.Line.TheVariants.{Refused}
use Rattle.printout.specs.Text.{text}
use Rattle.player.specs.Sayings.{last, sayings}
use Rattle.player.specs.Script.{interrupts, reason, before, done, script}
use Rattle.player.specs.Steps.{told, takes, brings}

-- a frame has bytes enough for what it brings, and no long reason
abbrev pub Modest : Said → Type 0
Modest (frame m k) = (brings m ≤ 80 * k) × (length (reason m) ≤ 15) × (1 ≤ k)
Modest ended = Unit {0}
Modest cut_short = Unit {0}
Modest unknown = Unit {0}

either : (b : Bool) (x y : Said) → Modest x → Modest y → Modest (cond b x y)
either b x y p q = cond_both b x y Modest (λ _. p) (λ _. q)

modest_kind : (kind low : ℕ) (rest : List ℕ) → low < 16 → Modest (of_kind kind low rest)
modest_kind kind low rest h =
    let short : length (take low rest) ≤ 15 = omega (arith, length-take low rest) in
    either (eqb kind 1) _ _ (either (ltb (length rest) 2) cut_short _ tt (either (eqb low 0) (frame (load (argument rest)) 3) unknown (omega arith, omega arith, omega arith) tt)) (
    either (eqb kind 2) _ _ (either (ltb (length rest) 3) cut_short (frame (reading (signed 28 (bits low (take 3 rest)))) 4) tt (omega arith, omega arith, omega arith)) (
    either (eqb kind 3) _ _ (either (ltb (length rest) low) cut_short (frame (abort (take low rest)) (1 + low)) tt (omega arith, short, omega arith)) (
    either (eqb kind 4) _ _ (either (ltb (length rest) 3) cut_short (frame (withdraw (bits low (take 3 rest))) 4) tt (omega arith, omega arith, omega arith)) (
    either (eqb kind 5) _ _ (
    either (eqb low 1) (frame verdict 1) _ (omega arith, omega arith, omega arith) (
    either (eqb low 2) (frame slope 1) _ (omega arith, omega arith, omega arith) (
    either (eqb low 3) _ _ (either (ltb (length rest) 2) cut_short (frame (value (argument rest)) 3) tt (omega arith, omega arith, omega arith)) (
    either (eqb low 4) (frame tallies 1) unknown (omega arith, omega arith, omega arith) tt)))) (
    either (eqb kind 6) _ unknown (either (eqb low 0) (frame clear 1) unknown (omega arith, omega arith, omega arith) tt) tt)))))

pub modest : (bytes : List ℕ) → Modest (said bytes)
modest [] = tt
modest (head ∷ rest) = modest_kind (head / 16) (head % 16) rest (omega arith)

skip : (n : ℕ) (bytes : List ℕ) → sayings n bytes ≡ sayings 0 (drop n bytes)
unfolding sayings
skip zero [] = refl
skip (suc n) [] = refl
skip zero (b ∷ bytes) = refl
skip (suc n) (b ∷ bytes) = skip n bytes

-- what comes after it
abbrev pub later : Said → List ℕ → List Said
later s bytes = cond (last s) [] (sayings 0 (drop (moved s) bytes))

passed : (s : Said) (b : ℕ) (bytes : List ℕ) → Modest s → cond (last s) [] (sayings (moved s - 1) bytes) ≡ later s (b ∷ bytes)
passed ended b bytes h = refl
passed cut_short b bytes h = refl
passed unknown b bytes h = refl
passed (frame m zero) b bytes h = absurd (omega (arith, h.2))
passed (frame m (suc k)) b bytes h = let n : suc k - 1 ≡ k = omega arith in ap (λ j. sayings j bytes) n ∙ skip k bytes

pub sayings_at : (bytes : List ℕ) → sayings 0 bytes ≡ said bytes ∷ later (said bytes) bytes
unfolding sayings
sayings_at [] = refl
sayings_at (b ∷ bytes) = ap (λ ss. said (b ∷ bytes) ∷ ss) (passed (said (b ∷ bytes)) b bytes (modest (b ∷ bytes)))

pub sayings_frame : (bytes : List ℕ) (k : ℕ) (m : Meaning) → said bytes ≡ frame m k → sayings 0 bytes ≡ frame m k ∷ sayings 0 (drop k bytes)
sayings_frame bytes k m e = sayings_at bytes ∙ ap (λ s. s ∷ later s bytes) e

-- ---- by what the reader answered

pub of_frame : (p : ℕ) (s : Said) (m : Meaning) → Ok (Some m) ≡ answer p s → s ≡ frame m (moved s)
of_frame p (frame m' k) m e = cc
of_frame p s m e = cc

-- this frame stands at the front of the bytes
pub record Comes (bytes : List ℕ) (f : Frame) : Type 0 where
  pub is : said bytes ≡ frame (says f) (moved (said bytes))
  pub room : brings (says f) ≤ 80 * moved (said bytes)
  pub short : length (reason (says f)) ≤ 15
  pub moves : 1 ≤ moved (said bytes)

pub comes : (p : ℕ) (bytes : List ℕ) (o : Option Frame) (f : Frame) → o ≡ Some f → meant (Ok o) ≡ answer p (said bytes) → Comes bytes f
comes p bytes o f some told =
    let e = of_frame p (said bytes) (says f) (ap (λ o. meant (Ok o)) (sym some) ∙ told) in
    let fine = subst Modest e (modest bytes) in
    record { is = e; room = fine.0; short = fine.1; moves = fine.2 }

-- the run ends at these bytes, and this line is printed last, if one is told
pub record Ends (bytes : List ℕ) (last : Option Line) : Type 0 where
  pub stops : interrupts (said bytes) ≡ true
  pub room : takes last ≤ 80 * length bytes
  pub script_is : (ss : List Said) (rs : List Outcome) → script None (said bytes ∷ ss) rs ≡ before [] (told last) done

pub of_end : (p : ℕ) (s : Said) → Ok None ≡ answer p s → s ≡ ended
of_end p ended e = refl
of_end p s e = cc

-- the bytes are at their end
pub at_end : (p : ℕ) (bytes : List ℕ) (o : Option Frame) → o ≡ None → meant (Ok o) ≡ answer p (said bytes) → Ends bytes None
unfolding script
at_end p bytes o none told =
    let e = of_end p (said bytes) (ap (λ o. meant (Ok o)) (sym none) ∙ told) in
    record { stops = ap interrupts e; room = omega arith; script_is = λ ss rs. ap (λ s. script None (s ∷ ss) rs) e }

pub of_refusal : (p : ℕ) (s : Said) (e : Refusal) → Err e ≡ answer p s
    → (interrupts s ≡ true) × ((ss : List Said) (rs : List Outcome) → script None (s ∷ ss) rs ≡ before [] (text (Refused (number e))) done)
unfolding script
of_refusal p ended e h = absurd (cc)
of_refusal p (frame m k) e h = absurd (cc)
of_refusal p cut_short e h =
    let gone : e ≡ FrameCutShort p = cc in
    let same : number e ≡ 11 = ap number gone in
    (refl, λ ss rs. ap (λ n. before [] (text (Refused n)) done) (sym same))
of_refusal p unknown e h =
    let gone : e ≡ FrameUnknown p = cc in
    let same : number e ≡ 12 = ap number gone in
    (refl, λ ss rs. ap (λ n. before [] (text (Refused n)) done) (sym same))

pub some_left : (p : ℕ) (bytes : List ℕ) (e : Refusal) → Err e ≡ answer p (said bytes) → 1 ≤ length bytes
some_left p [] e h = absurd (cc)
some_left p (b ∷ bytes) e h = omega arith

-- a frame is refused
pub at_refusal : (p : ℕ) (bytes : List ℕ) (e : Refusal) → Err e ≡ answer p (said bytes) → Ends bytes (Some (Refused (number e)))
at_refusal p bytes e h =
    let t = of_refusal p (said bytes) e h in
    record { stops = t.0; room = omega (arith, some_left p bytes e h); script_is = t.1 }

-- a frame that is neither a reading nor an abort interrupts
pub stops : (f : Frame) → ((x : ℤ) → f ≡ read.Reading x → ⊥) → ((why : Bor (List ℕ)) → f ≡ read.Abort why → ⊥) → (k : ℕ) → interrupts (frame (says f) k) ≡ true
stops (read.Reading x) no_reading no_abort k = absurd (no_reading x refl)
stops (read.Abort why) no_reading no_abort k = absurd (no_abort why refl)
stops f no_reading no_abort k = refl
