-- Named in the order of their serials, they are the same measurements, and different ones.
use Rattle.std.proofs.Common.{◌≡◌, ℕ, ◌<◌, ◌≤◌, ◌≢◌, List, [], ◌∷◌, Some, None, sym, refl, ap, ◌∙◌, subst, ⊎_elim, arith}
use Rattle.std.specs.List.{ContainsAt as Has, AllByRecursion as All}
use Rattle.std.proofs.ByRecursion.{all-has, All-weaker, all_has_itself}
use Rattle.refusal.specs.declared.conflict.Conflict.{Conflict as Naming}
use Rattle.lines.specs.Sheet.{Measurement, Consistent, Conflict}
use Rattle.lines.proofs.Parts.{conflict_whole}
use Rattle.lines.proofs.Serials.{two_differ, three_differ}
use Rattle.places.specs.declared.sample.Sample.{Sample}
use Rattle.places.specs.Samples.{measured}
use Rattle.questions.specs.Told.{NamedBy, Named}
use Rattle.questions.specs.Naming.{InOrder, Same, NamesTwo, NamesThree}

serial : {u v : Sample} → u ≡ v → u.serial ≡ v.serial
serial e = ap (λ (s : Sample). s.serial) e

-- what is some of a part is some of the whole
some_trans : (s t u : List Measurement) → All (Has s) t → All (Has t) u → All (Has s) u
some_trans s t u p q = All-weaker (Has t) (Has s) (λ m at. all-has (Has s) t m p at) u q

same_trans : (s t u : List Measurement) → Same s t → Same t u → Same s u
same_trans s t u p q = (some_trans s t u p.0 q.0, some_trans u t s q.1 p.1)

-- two of three exchanged for the same two
front : (x y a b z : Measurement) → All (Has (x ∷ y ∷ [])) (a ∷ b ∷ []) → All (Has (x ∷ y ∷ z ∷ [])) (a ∷ b ∷ z ∷ [])
front x y a b z p =
    let t = x ∷ y ∷ z ∷ [] in
    let (inX, (inY, (inZ, _))) = all_has_itself t in
    let (in_a, (in_b, _)) = some_trans t (x ∷ y ∷ []) (a ∷ b ∷ []) (inX, (inY, tt)) p in
    (in_a, (in_b, (inZ, tt)))

back : (x y z b c : Measurement) → All (Has (y ∷ z ∷ [])) (b ∷ c ∷ []) → All (Has (x ∷ y ∷ z ∷ [])) (x ∷ b ∷ c ∷ [])
back x y z b c p =
    let t = x ∷ y ∷ z ∷ [] in
    let (inX, (inY, (inZ, _))) = all_has_itself t in
    let (in_b, (in_c, _)) = some_trans t (y ∷ z ∷ []) (b ∷ c ∷ []) (inY, (inZ, tt)) p in
    (inX, (in_b, (in_c, tt)))

same_two : (a b x y : Sample) → InOrder a b x y → Same (measured x ∷ measured y ∷ []) (measured a ∷ measured b ∷ [])
same_two a b x y o = ⊎_elim
    (λ e. subst (λ u. Same (measured u ∷ measured y ∷ []) t) (sym e.0) (subst (λ v. Same (measured a ∷ measured v ∷ []) t) (sym e.1) (all_has_itself t, all_has_itself t)))
    (λ e. subst (λ u. Same (measured u ∷ measured y ∷ []) t) (sym e.0) (subst (λ v. Same (measured b ∷ measured v ∷ []) t) (sym e.1) swapped))
    o.same
  where
    t : List Measurement
    t = measured a ∷ measured b ∷ []

    swapped : Same (measured b ∷ measured a ∷ []) t
    swapped = let (p, (q, _)) = all_has_itself (measured b ∷ measured a ∷ []) in let (r, (s, _)) = all_has_itself t in ((q, (p, tt)), (s, (r, tt)))

pub names_two : (a b x y : Sample) → InOrder a b x y → NamesTwo (measured a) (measured b) (record { first = x.serial; second = y.serial; third = None })
names_two a b x y o = record
    { x = measured x; y = measured y; same = same_two a b x y o; first = refl; second = refl; order = o.order; third = refl }

-- three are in order after three exchanges
module _ (a b c low high middle last first second : Sample) (p : InOrder a b low high) (q : InOrder high c middle last) (r : InOrder low middle first second) where
  low_under : low.serial ≤ last.serial
  low_under = ⊎_elim (λ e. omega (arith, p.order, q.order, serial e.0)) (λ e. omega (arith, p.order, serial e.1)) q.same

  second_under : second.serial ≤ last.serial
  second_under = ⊎_elim (λ e. omega (arith, q.order, serial e.1)) (λ e. omega (arith, low_under, serial e.1)) r.same

  pub names_three : NamesThree (measured a) (measured b) (measured c) (record { first = first.serial; second = second.serial; third = Some last.serial })
  names_three =
      let f = measured first in let g = measured second in let l = measured low in let h = measured high in let m = measured middle in let z = measured last in
      let x = measured a in let y = measured b in let w = measured c in
      let one = same_two low middle first second r in let two = same_two high c middle last q in let three = same_two a b low high p in
      record {
        x = f;
        y = g;
        z = z;
        same = same_trans (f ∷ g ∷ z ∷ []) (l ∷ m ∷ z ∷ []) (x ∷ y ∷ w ∷ []) (front f g l m z one.0, front l m f g z one.1)
            (same_trans (l ∷ m ∷ z ∷ []) (l ∷ h ∷ w ∷ []) (x ∷ y ∷ w ∷ []) (back l m z h w two.0, back l h w m z two.1) (front l h x y w three.0, front x y l h w three.1));
        first = refl;
        second = refl;
        order = (r.order, second_under);
        third = refl;
      }

below : {i j : ℕ} → i ≤ j → i ≢ j → i < j
below {i} {j} le ne = omega arith

module _ (s : List Measurement) where
  pub named_two : (a b : Measurement) (r : Naming) → Has s a → Has s b → Conflict (a ∷ b ∷ []) → NamesTwo a b r → Named s r
  named_two a b r atA at_b never n =
      let (atX, (atY, _)) = some_trans s (a ∷ b ∷ []) (n.x ∷ n.y ∷ []) (atA, (at_b, tt)) n.same.1 in
      let conflict = conflict_whole (n.x ∷ n.y ∷ []) (a ∷ b ∷ []) n.same.0 never in
      subst (NamedBy s r.first r.second) (sym n.third) (record {
        a = n.x;
        b = n.y;
        a_held = atX;
        b_held = atY;
        a_serial = n.first;
        b_serial = n.second;
        order = n.order;
        distinct = λ d. below n.order (λ e. two_differ s d n.x n.y atX atY conflict (n.first ∙ e ∙ sym n.second));
        conflict = conflict;
      })

  pub named_three : ((x y : Measurement) → Has s x → Has s y → Consistent (x ∷ y ∷ [])) → (a b c : Measurement) (r : Naming) → All (Has s) (a ∷ b ∷ c ∷ [])
      → Conflict (a ∷ b ∷ c ∷ []) → NamesThree a b c r → Named s r
  named_three no_two a b c r in_s never n =
      let (atX, (atY, (atZ, _))) = some_trans s (a ∷ b ∷ c ∷ []) (n.x ∷ n.y ∷ n.z ∷ []) in_s n.same.1 in
      let conflict = conflict_whole (n.x ∷ n.y ∷ n.z ∷ []) (a ∷ b ∷ c ∷ []) n.same.0 never in
      subst (NamedBy s r.first r.second) (sym n.third) (record {
        a = n.x;
        b = n.y;
        c = n.z;
        a_held = atX;
        b_held = atY;
        c_held = atZ;
        a_serial = n.first;
        b_serial = n.second;
        c_serial = refl;
        order = (omega (arith, n.order.0, n.first, n.second), omega (arith, n.order.1, n.second));
        distinct = λ d. let (xy, _, yz) = three_differ s d no_two n.x n.y n.z atX atY atZ conflict in (
          below (omega (arith, n.order.0, n.first, n.second)) (λ e. xy (n.first ∙ e ∙ sym n.second)),
          below (omega (arith, n.order.1, n.second)) (λ e. yz (n.second ∙ e)),
        );
        conflict = conflict;
        no_two = no_two;
      })
