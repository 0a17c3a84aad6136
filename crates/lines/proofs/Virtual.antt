-- A value b at x is reached where it lies under the high values and over the value of an admissible line: put {b} as a measurement
-- at x into the sheet, with all ends times the denominator of b, and every two and three keep together.
use Rattle.std.proofs.Common.{◌≡◌, List, ◌∷◌, map, ℤ, pos, ◌+ℤ◌, ◌-ℤ◌, ◌*ℤ◌, ◌≤ℤ◌, ◌<ℤ◌, sym, ap, ◌∙◌, subst, arith}
use lib.Signed.{≤ℤ_refl}
use Rattle.std.specs.List.{ContainsAt as Has}
use Rattle.algebra.proofs.Ring.{linear, ring, times_grows, cancel, one_right, assoc, product_positive}
use Rattle.rational.specs.Rational.{Rational, ◌≼◌, ◌≈◌, whole}
use Rattle.rational.specs.Line.{Line, value_at}
use Rattle.lines.specs.Sheet.{Measurement, Admissible}
use Rattle.lines.specs.Slopes.{Rises, LowChord, HighChord}
use Rattle.lines.specs.Values.{high_value}
use Rattle.lines.proofs.Members.{has_first, has_next, has_map, each_of_more, each_of_map}
use Rattle.lines.proofs.Possible.{meets_in, meets_out}
use Rattle.lines.proofs.Triples.{Over, Under, low_chord, high_chord}
use Rattle.lines.proofs.Threes.{chords_consistent}
use Rattle.lines.proofs.Values.{high_between, high_beyond, high_before}

-- all ends times e
abbrev scaled : (e : ℤ) → pos 0 <ℤ e → Measurement → Measurement
scaled e h m = record { serial = m.serial; argument = m.argument; lower = m.lower *ℤ e; upper = m.upper *ℤ e; ordered = times_grows e (omega (arith, linear)) m.ordered }

abbrev point : ℤ → ℤ → Measurement
point x y = record { serial = 0; argument = x; lower = y; upper = y; ordered = ≤ℤ_refl y }

-- a member of the sheet with the point put in
data Member (s : List Measurement) (x : ℤ) (b : Rational) : Measurement → Type 0 where
  put : Member s x b (point x b.num)
  held : (m : Measurement) → Has s m → Member s x b (scaled b.den b.above m)

stretched_value : (p q e x : ℤ) → ((p *ℤ e) *ℤ x +ℤ q *ℤ e) *ℤ pos 1 ≡ (p *ℤ x +ℤ q) *ℤ e
stretched_value p q e x = simp ring

exchange : (a b c : ℤ) → (a *ℤ b) *ℤ c ≡ (a *ℤ c) *ℤ b
exchange a b c = simp ring

meet_on_line : (l : Line) (a c : Measurement) → Over l a → Under l c → a.argument ≡ c.argument → a.lower ≤ℤ c.upper
meet_on_line l a c over under e = cancel l.d l.above (omega (arith, linear, ap (λ z. (l.p *ℤ z +ℤ l.q) *ℤ pos 1) e))

-- n / e lies under the high value of j and i: so the chords with the point are kept
module _ (n e : ℤ) (j i : Measurement) (h : Rises j i) (x : ℤ) (le : (n *ℤ (i.argument -ℤ j.argument)) ≤ℤ ((high_value j i h x).num *ℤ e)) where
  chord_before : x ≤ℤ j.argument → (n *ℤ (i.argument -ℤ j.argument) +ℤ (i.lower *ℤ e) *ℤ (j.argument -ℤ x)) ≤ℤ ((j.upper *ℤ e) *ℤ (i.argument -ℤ x))
  chord_before xj =
      let f = subst (λ z. (n *ℤ (i.argument -ℤ j.argument)) ≤ℤ (z *ℤ e)) (high_before j i h x xj) le in
      simp ring (omega (arith, linear, simp ring at f))

  chord_beyond : i.argument ≤ℤ x → ((j.lower *ℤ e) *ℤ (x -ℤ i.argument) +ℤ n *ℤ (i.argument -ℤ j.argument)) ≤ℤ ((i.upper *ℤ e) *ℤ (x -ℤ j.argument))
  chord_beyond ix =
      let f = subst (λ z. (n *ℤ (i.argument -ℤ j.argument)) ≤ℤ (z *ℤ e)) (high_beyond j i h x ix) le in
      simp ring (omega (arith, linear, simp ring at f))

  chord_between : j.argument ≤ℤ x → x ≤ℤ i.argument
      → (n *ℤ (i.argument -ℤ j.argument)) ≤ℤ ((j.upper *ℤ e) *ℤ (i.argument -ℤ x) +ℤ (i.upper *ℤ e) *ℤ (x -ℤ j.argument))
  chord_between jx xi =
      let f = subst (λ z. (n *ℤ (i.argument -ℤ j.argument)) ≤ℤ (z *ℤ e)) (high_between j i h x jx xi) le in
      simp ring (omega (arith, linear, simp ring at f))

module _ (s : List Measurement) (x : ℤ) (b : Rational) (l : Line) (ok : Admissible s l) (below : value_at l x ≼ b)
    (here : (m : Measurement) → Has s m → m.argument ≡ x → b ≼ whole m.upper)
    (pairs : (j i : Measurement) → Has s j → Has s i → (h : Rises j i) → b ≼ high_value j i h x) where
  abbrev n : ℤ
  n = b.num

  abbrev e : ℤ
  e = b.den

  abbrev sheet : List Measurement
  sheet = point x n ∷ map (scaled e b.above) s

  abbrev stretched : Line
  stretched = record { p = l.p *ℤ e; q = l.q *ℤ e; d = l.d; above = l.above }

  member : (a : Measurement) → Has sheet a → Member s x b a
  member = each_of_more (Member s x b) (point x n) (map (scaled e b.above) s) put (each_of_map (Member s x b) (scaled e b.above) s held)

  over : (m : Measurement) → Has s m → Over stretched (scaled e b.above m)
  over m at =
      let low = (meets_out l.p l.d l.above l.q m (ok m at)).0 in
      omega (arith, linear, times_grows e (omega (arith, linear, b.above)) low, exchange m.lower e l.d, stretched_value l.p l.q e m.argument)

  under : {a : Measurement} → Member s x b a → Under stretched a
  under put = omega (arith, linear, stretched_value l.p l.q e x)
  under (held m at) =
      let high = (meets_out l.p l.d l.above l.q m (ok m at)).1 in
      omega (arith, linear, times_grows e (omega (arith, linear, b.above)) high, exchange m.upper e l.d, stretched_value l.p l.q e m.argument)

  meet : {a c : Measurement} → Member s x b a → Member s x b c → a.argument ≡ c.argument → a.lower ≤ℤ c.upper
  meet put put same = ≤ℤ_refl n
  meet put (held m at) same = omega (arith, linear, here m at (sym same), one_right n)
  meet {c = c} (held m at) y same = meet_on_line stretched (scaled e b.above m) c (over m at) (under y) same

  low : {a b' c : Measurement} → Member s x b a → Member s x b c → Member s x b b' → a.argument <ℤ b'.argument → b'.argument <ℤ c.argument → LowChord a b' c
  low {b' = b'} (held j atJ) (held i atI) y ab bc =
      low_chord stretched (scaled e b.above j) b' (scaled e b.above i) (omega (arith, linear)) (omega (arith, linear)) (over j atJ) (under y) (over i atI)
  low (held j atJ) put put ab bc = absurd (omega (arith, linear))
  low (held j atJ) put (held i atI) ab bc = chord_beyond n e j i ab x (pairs j i atJ atI ab) (omega (arith, linear))
  low put put y ab bc = absurd (omega (arith, linear))
  low put (held i atI) put ab bc = absurd (omega (arith, linear))
  low put (held i atI) (held j atJ) ab bc = chord_before n e j i bc x (pairs j i atJ atI bc) (omega (arith, linear))

  high : {a b' c : Measurement} → Member s x b b' → Member s x b a → Member s x b c → a.argument <ℤ b'.argument → b'.argument <ℤ c.argument → HighChord a b' c
  high {a = a} {c = c} (held m at) y z ab bc =
      high_chord stretched a (scaled e b.above m) c (omega (arith, linear)) (omega (arith, linear)) (under y) (over m at) (under z)
  high put put z ab bc = absurd (omega (arith, linear))
  high put (held j atJ) put ab bc = absurd (omega (arith, linear))
  high put (held j atJ) (held i atI) ab bc =
      let ji : j.argument <ℤ i.argument = omega (arith, linear) in
      chord_between n e j i ji x (pairs j i atJ atI ji) (omega (arith, linear)) (omega (arith, linear))

  pub value_reached : (k : Line) × Admissible s k × (value_at k x ≈ b)
  value_reached =
      let (k, met) = chords_consistent sheet (λ a c atA atC. meet (member a atA) (member c atC))
      (λ a m c atA atM atC am mc. (low (member a atA) (member c atC) (member m atM) am mc, high (member m atM) (member a atA) (member c atC) am mc)) in
      let above : pos 0 <ℤ (k.d *ℤ e) = product_positive k.above b.above in
      let (lowX, highX) = meets_out k.p k.d k.above k.q (point x n) (met (point x n) (has_first (point x n) (map (scaled e b.above) s))) in
      let through : k.p *ℤ x +ℤ k.q ≡ n *ℤ k.d = omega (arith, linear) in (
        record { p = k.p; q = k.q; d = k.d *ℤ e; above = above },
        (λ m at.
            let m' = scaled e b.above m in
            let (lowM, highM) = meets_out k.p k.d k.above k.q m' (met m' (has_next (point x n) m' (map (scaled e b.above) s) (has_map (scaled e b.above) s m at))) in
            meets_in k.p (k.d *ℤ e) above k.q m
            (omega (arith, linear, exchange m.lower e k.d, assoc m.lower k.d e)) (omega (arith, linear, exchange m.upper e k.d, assoc m.upper k.d e))),
        ap (λ z. z *ℤ e) through ∙ assoc n k.d e,
      )
