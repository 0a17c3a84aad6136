-- What an answer says of the meaning.
use Rattle.std.proofs.Common.{◌≡◌, ℕ, ◌+◌, Bool, true, false, cond, ℤ, Ok, Err, Result, refl, ap, subst, arith}
use Rattle.stage.specs.declared.not_taken.NotTaken.{NotTaken}
use Rattle.stage.specs.Meaning.{Meaning, answer, told}
use Rattle.stage.specs.Chains.{chained}

taken_by : (b : Bool) (l u low high : ℤ) (e : NotTaken) → ◌≡◌ {A = Result (ℤ × ℤ) NotTaken} (Ok (l, u)) (cond b (Ok (low, high)) (Err e)) → (b ≡ true) × (l ≡ low) × (u ≡ high)
taken_by true l u low high e h = let p : ◌≡◌ {A = ℤ × ℤ} (l, u) (low, high) = cc in (refl, ap (λ q. q.0) p, ap (λ q. q.1) p)
taken_by false l u low high e h = let z : ◌≡◌ {A = ℕ} 0 1 = cc in absurd (omega arith)

-- ends are told of a reading that is taken, and they are its own
pub taken_ends : (m : Meaning) (r l u : ℤ) → ◌≡◌ {A = Result (ℤ × ℤ) NotTaken} (Ok (l, u)) (answer m r) → (m.taken r ≡ true) × (l ≡ m.lower r) × (u ≡ m.upper r)
taken_ends m r l u h = taken_by (m.taken r) l u (m.lower r) (m.upper r) _ h

refused_by : (b : Bool) (x : ℤ × ℤ) (e f : NotTaken) → ◌≡◌ {A = Result (ℤ × ℤ) NotTaken} (Err e) (cond b (Ok x) (Err f)) → (b ≡ false) × (e ≡ f)
refused_by true x e f h = let z : ◌≡◌ {A = ℕ} 0 1 = cc in absurd (omega arith)
refused_by false x e f h = (refl, cc)

-- a refusal is told of a reading that is not taken, and it is its own
refusal_told : (m : Meaning) (r : ℤ) (e : NotTaken) → ◌≡◌ {A = Result (ℤ × ℤ) NotTaken} (Err e) (answer m r) → (m.taken r ≡ false) × (e ≡ record { place = told (m.place r); value = m.value r })
refusal_told m r e h = refused_by (m.taken r) (m.lower r, m.upper r) e _ h

told_sum : (p n : ℕ) → told (told p + told n) ≡ told (n + p)
told_sum p n = omega arith

lower_refused : (u l : Meaning) (r : ℤ) (q : NotTaken) → u.taken r ≡ true → l.taken (u.lower r) ≡ false
    → q ≡ record { place = told (told (l.place (u.lower r)) + told u.count); value = l.value (u.lower r) }
    → ◌≡◌ {A = Result (ℤ × ℤ) NotTaken} (Err q) (answer (chained u l) r)
lower_refused u l r q t f h = rw (t, f, h, told_sum (l.place (u.lower r)) u.count)

upper_refused : (u l : Meaning) (r : ℤ) (q : NotTaken) → u.taken r ≡ true → l.taken (u.lower r) ≡ true → l.taken (u.upper r) ≡ false
    → q ≡ record { place = told (told (l.place (u.upper r)) + told u.count); value = l.value (u.upper r) }
    → ◌≡◌ {A = Result (ℤ × ℤ) NotTaken} (Err q) (answer (chained u l) r)
upper_refused u l r q t k f h = rw (t, k, f, h, told_sum (l.place (u.upper r)) u.count)

-- a chain whose lower stage refuses the lower end answers its refusal, passed on
pub refuses_lower : (u l : Meaning) (r low high : ℤ) (e q : NotTaken) (n : ℕ)
    → ◌≡◌ {A = Result (ℤ × ℤ) NotTaken} (Ok (low, high)) (answer u r) → n ≡ told u.count
    → ◌≡◌ {A = Result (ℤ × ℤ) NotTaken} (Err e) (answer l low)
    → ((place : ℕ) (value : ℤ) → e ≡ record { place = place; value = value } → q ≡ record { place = told (place + n); value = value })
    → ◌≡◌ {A = Result (ℤ × ℤ) NotTaken} (Err q) (answer (chained u l) r)
refuses_lower u l r low high e q n a k b p =
    let t = taken_ends u r low high a in
    let f = refusal_told l low e b in
    let s = p (told (l.place low)) (l.value low) f.1 in
    lower_refused u l r q t.0 (subst (λ z. l.taken z ≡ false) t.1 f.0)
    (subst (λ z. q ≡ record { place = told (told (l.place z) + told u.count); value = l.value z }) t.1
    (subst (λ m. q ≡ record { place = told (told (l.place low) + m); value = l.value low }) k s))

-- a chain whose lower stage takes the lower end and refuses the upper one answers that refusal, passed on
pub refuses_upper : (u l : Meaning) (r low high x y : ℤ) (e q : NotTaken) (n : ℕ)
    → ◌≡◌ {A = Result (ℤ × ℤ) NotTaken} (Ok (low, high)) (answer u r) → n ≡ told u.count
    → ◌≡◌ {A = Result (ℤ × ℤ) NotTaken} (Ok (x, y)) (answer l low)
    → ◌≡◌ {A = Result (ℤ × ℤ) NotTaken} (Err e) (answer l high)
    → ((place : ℕ) (value : ℤ) → e ≡ record { place = place; value = value } → q ≡ record { place = told (place + n); value = value })
    → ◌≡◌ {A = Result (ℤ × ℤ) NotTaken} (Err q) (answer (chained u l) r)
refuses_upper u l r low high x y e q n a k d b p =
    let t = taken_ends u r low high a in
    let o = taken_ends l low x y d in
    let f = refusal_told l high e b in
    let s = p (told (l.place high)) (l.value high) f.1 in
    upper_refused u l r q t.0 (subst (λ z. l.taken z ≡ true) t.1 o.0) (subst (λ z. l.taken z ≡ false) t.2 f.0)
    (subst (λ z. q ≡ record { place = told (told (l.place z) + told u.count); value = l.value z }) t.2
    (subst (λ m. q ≡ record { place = told (told (l.place high) + m); value = l.value high }) k s))
