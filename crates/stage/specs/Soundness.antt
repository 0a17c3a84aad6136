-- A chain of two sound stages is sound.
use Rattle.std.specs.Prelude.{◌≡◌, Bool, true, ◌&&◌, ℤ, ◌≤ℤ◌}
use Rattle.std.proofs.Common.{arith}
use Rattle.algebra.proofs.Ring.{linear}
use Rattle.std.proofs.lemmas.Int.{ints}
use Rattle.exact.specs.Limits.{least_end, greatest_end}
use Rattle.stage.specs.Meaning.{Meaning, Sound, in_limits, single}
use Rattle.stage.specs.Chains.{chained}

pub both : (a b c : Bool) → (a && (b && c)) ≡ true → (a ≡ true) × (b ≡ true) × (c ≡ true)
both a b c h = (grind arith, grind arith, grind arith)

pub joined : (a b c : Bool) → a ≡ true → b ≡ true → c ≡ true → (a && (b && c)) ≡ true
joined a b c p q r = grind arith

module _ (u l : Meaning) (su : Sound u) (sl : Sound l) where
  -- what a reading that the chain takes is to the two stages
  parts : (r : ℤ) → (chained u l).taken r ≡ true → (u.taken r ≡ true) × (l.taken (u.lower r) ≡ true) × (l.taken (u.upper r) ≡ true)
  parts r h = both (u.taken r) (l.taken (u.lower r)) (l.taken (u.upper r)) h

  ordered : (r : ℤ) → (chained u l).taken r ≡ true → (chained u l).lower r ≤ℤ (chained u l).upper r
  ordered r h =
      let p = parts r h in
      omega (arith, linear, sl.ordered (u.lower r) p.1, (sl.rising (u.lower r) (u.upper r) (su.ordered r p.0) p.1 p.2).1)

  between : (a b c : ℤ) → a ≤ℤ b → b ≤ℤ c → (chained u l).taken a ≡ true → (chained u l).taken c ≡ true → (chained u l).taken b ≡ true
  between a b c ab bc ha hc =
      let p = parts a ha in let q = parts c hc in
      let here = su.between a b c ab bc p.0 q.0 in
      let before = su.rising a b ab p.0 here in
      let after = su.rising b c bc here q.0 in
      joined (u.taken b) (l.taken (u.lower b)) (l.taken (u.upper b)) here
      (sl.between (u.lower a) (u.lower b) (u.lower c) before.0 after.0 p.1 q.1)
      (sl.between (u.upper a) (u.upper b) (u.upper c) before.1 after.1 p.2 q.2)

  pub chained_sound : Sound (chained u l)
  chained_sound = record {
    ordered = ordered;
    within = λ r h. let p = parts r h in ((sl.within (u.lower r) p.1).0, (sl.within (u.upper r) p.2).1);
    between = between;
    rising = λ a b ab ha hb.
        let p = parts a ha in let q = parts b hb in let up = su.rising a b ab p.0 q.0 in
        ((sl.rising (u.lower a) (u.lower b) up.0 p.1 q.1).0, (sl.rising (u.upper a) (u.upper b) up.1 p.2 q.2).1);
  }

both_in : (l u : ℤ) → (in_limits l && in_limits u) ≡ true → (least_end ≤ℤ l) × (u ≤ℤ greatest_end)
both_in l u h = (grind (arith, ints), grind (arith, ints))

in_both : (l u : ℤ) → least_end ≤ℤ l → l ≤ℤ u → u ≤ℤ greatest_end → (in_limits l && in_limits u) ≡ true
in_both l u a b c = grind (arith, ints)

-- a single stage is sound where no lower end is above its upper end, and where neither end falls as the reading rises
pub single_sound : (l u : ℤ → ℤ) → ((r : ℤ) → l r ≤ℤ u r) → ((a b : ℤ) → a ≤ℤ b → l a ≤ℤ l b) → ((a b : ℤ) → a ≤ℤ b → u a ≤ℤ u b) → Sound (single l u)
single_sound l u o ml mu = record {
  ordered = λ r h. o r;
  within = λ r h. both_in (l r) (u r) h;
  between = λ a b c ab bc ha hc.
      in_both (l b) (u b)
      (let p = (both_in (l a) (u a) ha).0 in let q = ml a b ab in omega (arith, linear))
      (o b)
      (let p = (both_in (l c) (u c) hc).1 in let q = mu b c bc in omega (arith, linear));
  rising = λ a b ab ha hb. (ml a b ab, mu a b ab);
}
