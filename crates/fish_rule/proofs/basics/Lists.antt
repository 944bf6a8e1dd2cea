-- Lists of views, one of which changes, and facts about lists.
use Rattle.std.proofs.Common.{◌≡◌, ◌≢◌, ℕ, ◌<◌, ◌≤◌, zero, suc, List, [], ◌∷◌, ◌++◌, length, set, sym, refl, subst, inl}
use Rattle.std.proofs.Common.{inr, ◌⊎◌, ⊎_elim, arith, Some, None, Option, slice_get}
use Rattle.fish_rule.proofs.basics.Context.{Among, Flight, View, get_elem?, some}
use mathlib.Core.Option.{some-ne-none}
use Rattle.atomic_table.proofs.Lists.{at_set, at_snoc}
use Rattle.fish_rule.specs.Parts.{Seats}
use Rattle.fish_rule.specs.Views.{AllOf, Each, Has, IsFlightOf}

-- ---- one view in place of another

-- what holds of the new view and of each other one holds of each
pub each_set : (P : View → Type 0) (vs : List View) (id : ℕ) (v' : View)
    → ((j : ℕ) (u : View) → j ≢ id → get_elem? vs j ≡ some u → P u) → P v'
    → Each P (set vs id v')
each_set P vs id v' others mine j u at =
    ⊎_elim (λ (t : (j ≡ id) × (v' ≡ u)). subst P t.1 mine)
    (λ (t : (j ≢ id) × (get_elem? vs j ≡ some u)). others j u t.0 t.1) (at_set vs id j v' u at)

-- the same of pairs, where the fact is symmetric enough to be shown from each side
pub pairs_set : (Q : ℕ → ℕ → View → View → Type 0) (vs : List View) (id : ℕ) (v' : View) → ((i : ℕ) → Q i i v' v')
    → ((j : ℕ) (u : View) → j ≢ id → get_elem? vs j ≡ some u → Q id j v' u × Q j id u v')
    → ((i j : ℕ) (v u : View) → i ≢ id → j ≢ id → get_elem? vs i ≡ some v → get_elem? vs j ≡ some u → Q i j v u)
    → (i j : ℕ) (v u : View) → get_elem? (set vs id v') i ≡ some v → get_elem? (set vs id v') j ≡ some u → Q i j v u
pairs_set Q vs id v' same one both i j v u at_i at_j =
    ⊎_elim
    (λ (s : (i ≡ id) × (v' ≡ v)). ⊎_elim
    (λ (t : (j ≡ id) × (v' ≡ u)). subst (λ (z : ℕ × ℕ × View × View). Q z.0 z.1 z.2 z.3)
    (λ d. (sym s.0 d, sym t.0 d, s.1 d, t.1 d)) (same id))
    (λ (t : (j ≢ id) × (get_elem? vs j ≡ some u)). subst (λ (z : ℕ × View). Q z.0 j z.1 u)
    (λ d. (sym s.0 d, s.1 d)) (one j u t.0 t.1).0)
    (at_set vs id j v' u at_j))
    (λ (s : (i ≢ id) × (get_elem? vs i ≡ some v)). ⊎_elim
    (λ (t : (j ≡ id) × (v' ≡ u)). subst (λ (z : ℕ × View). Q i z.0 v z.1) (λ d. (sym t.0 d, t.1 d)) (one i v s.0 s.1).1)
    (λ (t : (j ≢ id) × (get_elem? vs j ≡ some u)). both i j v u s.0 t.0 s.1 t.1)
    (at_set vs id j v' u at_j))
    (at_set vs id i v' v at_i)

-- one more view after the others
pub each_snoc : (P : View → Type 0) (vs : List View) (u : View) → Each P vs → P u → Each P (vs ++ u ∷ [])
each_snoc P vs u all one j v at = ⊎_elim (λ (t : get_elem? vs j ≡ some v). all j v t)
    (λ (t : u ≡ v). subst P t one) (at_snoc vs u v j at)

-- a view that is there is in range
pub within_list : (vs : List View) (j : ℕ) (v : View) → get_elem? vs j ≡ some v → j < length vs
within_list [] j v at = absurd (some-ne-none v (sym at))
within_list (x ∷ xs) zero v at = omega arith
within_list (x ∷ xs) (suc j) v at = let h = within_list xs j v at in omega arith

-- ---- lanes

-- a view with the same lane and the same lanes out has the same lanes
pub has_same : (lane lane' : ℕ) (out out' : List ℕ) (l : ℕ) → lane' ≡ lane → out' ≡ out → Has lane' out' l
    → Has lane out l
has_same lane lane' out out' l e f h = subst (λ (z : ℕ × List ℕ). Has z.0 z.1 l) (λ d. (e d, f d)) h

-- a step that moves no lane keeps the seats
pub seats_kept : (vs : List View) (id : ℕ) (v v' : View) → get_elem? vs id ≡ some v → v'.lane ≡ v.lane
    → v'.out ≡ v.out → Seats vs → Seats (set vs id v')
seats_kept vs id v v' at lane out seats = record {
  apart = λ i j a b l at_i at_j has_a has_b.
      (pairs_set (λ i j a b. Has a.lane a.out l → Has b.lane b.out l → i ≡ j) vs id v'
      (λ i p q. refl)
      (λ j u ne at_u. (
        (λ p q. seats.apart id j v u l at at_u (back l p) q),
        (λ p q. seats.apart j id u v l at_u at p (back l q)),
      ))
      (λ i j a b _ _ at_a at_b p q. seats.apart i j a b l at_a at_b p q) i j a b at_i at_j) has_a has_b;
  few = each_set (λ u. u.lane ≤ 16) vs id v' (λ j u ne at_u. seats.few j u at_u)
      (subst (λ (z : ℕ). z ≤ 16) (sym lane) (seats.few id v at));
}
  where
    back : (l : ℕ) → Has v'.lane v'.out l → Has v.lane v.out l
    back l h = has_same v.lane v'.lane v.out v'.out l lane out h

-- a live pass has its own lane
pub has_own : (vs : List View) (id : ℕ) (v : View) → get_elem? vs id ≡ some v → 1 ≤ v.lane → Seats vs
    → Has v.lane v.out v.lane
has_own vs id v at live seats = (live, seats.few id v at, inl refl)

-- while the control pass has all lanes, no other pass is live
pub only_control : (vs : List View) (i j : ℕ) (v u : View) → Seats vs → get_elem? vs i ≡ some v
    → get_elem? vs j ≡ some u → v.lane ≡ 1 → v.out ≡ [] → 1 ≤ u.lane → j ≡ i
only_control vs i j v u seats at_i at_j control all live =
    let mine : Has v.lane v.out u.lane = (live, seats.few j u at_j, inr (control, λ h. subst (Among u.lane) all h)) in
    sym (seats.apart i j v u u.lane at_i at_j mine (has_own vs j u at_j live seats))

-- ---- lists of facts

module _ {A : Type 0} where
  -- facts that follow from facts
  pub all_map : (P Q : A → Type 0) → ((x : A) → P x → Q x) → (xs : List A) → AllOf P xs → AllOf Q xs
  all_map P Q f [] h = h
  all_map P Q f (x ∷ xs) h = (f x h.0, all_map P Q f xs h.1)

  -- facts of two lists
  pub all_append : (P : A → Type 0) (xs ys : List A) → AllOf P xs → AllOf P ys → AllOf P (xs ++ ys)
  all_append P [] ys h g = g
  all_append P (x ∷ xs) ys h g = (h.0, all_append P xs ys h.1 g)

  -- one fact of a list
  pub all_among : (P : A → Type 0) (x : A) (xs : List A) → AllOf P xs → Among x xs → P x
  all_among P x [] h m = elim m [ ]
  all_among P x (y ∷ ys) h (inl e) = subst P e h.0
  all_among P x (y ∷ ys) h (inr m) = all_among P x ys h.1 m

  -- what is in a list is in it before another
  pub among_left : (x : A) (xs ys : List A) → Among x xs → Among x (xs ++ ys)
  among_left x [] ys m = elim m [ ]
  among_left x (y ∷ xs) ys (inl e) = inl e
  among_left x (y ∷ xs) ys (inr m) = inr (among_left x xs ys m)

  -- and after one
  pub among_right : (x : A) (xs ys : List A) → Among x ys → Among x (xs ++ ys)
  among_right x [] ys m = m
  among_right x (y ∷ xs) ys m = inr (among_right x xs ys m)

  -- what is in two lists is in one of them
  pub among_either : (x : A) (xs ys : List A) → Among x (xs ++ ys) → Among x xs ⊎ Among x ys
  among_either x [] ys m = inr m
  among_either x (y ∷ xs) ys (inl e) = inl (inl e)
  among_either x (y ∷ xs) ys (inr m) = ⊎_elim (λ (t : Among x xs). inl (inr t)) (λ (t : Among x ys). inr t)
      (among_either x xs ys m)

  -- an element is there
  pub there_is : (xs : List A) (i : ℕ) → i < length xs → (x : A) × (slice_get xs i ≡ Some x)
  there_is [] i less = absurd (omega arith)
  there_is (x ∷ xs) zero less = (x, refl)
  there_is (x ∷ xs) (suc i) less = there_is xs i (omega arith)

-- ---- options

-- nothing is no flight
pub no_flight : (n : ℕ) (o : Option Flight) → o ≡ None → ¬ IsFlightOf n o
no_flight n o e h = subst (IsFlightOf n) e h
