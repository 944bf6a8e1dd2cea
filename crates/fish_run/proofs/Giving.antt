-- What lanes are given for a round.
use Rattle.std.proofs.Common.{◌≡◌, ℕ, zero, suc, List, [], ◌∷◌, ◌++◌, Some}
use Rattle.std.proofs.Common.{append-nil, arith, length, slice_get, refl, sym, ap, ◌∙◌, inl, inr}
use Rattle.fish_feed.specs.Queues.{AreIdle, IsGiven, both, works_of}
use Rattle.fish_feed.specs.Works.{AreAnewAfterFirst, Triples}
use Rattle.fish_script.specs.Laws.{Pairs}
use Rattle.fish_lanes.specs.declared.lane.Lane.{Lane}
use Rattle.fish_lanes.specs.declared.work.Work.{Work}
use Rattle.fish_run.specs.within.Going.{HasNextWorks}
use Rattle.fish_run.specs.Works.{to_do}

-- nothing for each lane
pub nones : {A : Type 0} → List A → List (List Work)
nones [] = []
nones (x ∷ lanes) = [] ∷ nones lanes

pub nones_length : {A : Type 0} (lanes : List A) → length (nones lanes) ≡ length lanes
unfolding nones
nones_length [] = refl
nones_length (x ∷ lanes) = ap suc (nones_length lanes)

pub nones_at : {A : Type 0} (lanes : List A) (i : ℕ) (ws : List Work) → slice_get (nones lanes) i ≡ Some ws → ws ≡ []
unfolding nones
nones_at [] i ws at = absurd cc
nones_at (x ∷ lanes) zero ws at = sym (let e : [] ≡ ws = cc in e)
nones_at (x ∷ lanes) (suc i) ws at = nones_at lanes i ws at

pub nones_left : (lanes : List Lane) (given : List (List Work)) → length given ≡ length lanes → both (nones lanes) given ≡ given
unfolding nones
nones_left [] [] many = refl
nones_left [] (ws ∷ given) many = absurd (omega (many, arith))
nones_left (x ∷ lanes) [] many = absurd (omega (many, arith))
nones_left (x ∷ lanes) (ws ∷ given) many = ap (λ (z : List (List Work)). ws ∷ z) (nones_left lanes given (omega (many, arith)))

pub nones_right : (given : List (List Work)) (lanes : List Lane) → length given ≡ length lanes → both given (nones lanes) ≡ given
unfolding nones
nones_right [] lanes many = refl
nones_right (ws ∷ given) [] many = absurd (omega (many, arith))
nones_right (ws ∷ given) (x ∷ lanes) many =
    let more = nones_right given lanes (omega (many, arith)) in (λ i. append-nil ws i ∷ more i)

pub works_length : (lanes : List Lane) → length (works_of lanes) ≡ length lanes
works_length [] = refl
works_length (x ∷ lanes) = ap suc (works_length lanes)

pub both_length : (xs ys : List (List Work)) → length xs ≡ length ys → length (both xs ys) ≡ length xs
both_length [] ys many = refl
both_length (x ∷ xs) [] many = absurd (omega (many, arith))
both_length (x ∷ xs) (y ∷ ys) many = ap suc (both_length xs ys (omega (many, arith)))

-- idle lanes begin with what they are given
pub idle_first : (lanes : List Lane) (given : List (List Work)) (ys : List Lane) → AreIdle lanes → Triples HasNextWorks lanes given ys
    → Pairs (λ ws y. (to_do y ≡ ws) × AreAnewAfterFirst ws) given ys
idle_first [] [] [] idle h = tt
idle_first [] [] (y ∷ ys) idle h = elim h [ ]
idle_first [] (ws ∷ given) ys idle h = elim h [ ]
idle_first (x ∷ lanes) [] ys idle h = elim h [ ]
idle_first (x ∷ lanes) (ws ∷ given) [] idle h = elim h [ ]
idle_first (x ∷ lanes) (ws ∷ given) (y ∷ ys) idle h =
    ((h.0.0 ∙ ap (λ (z : List Work). z ++ ws) idle.0, h.0.2), idle_first lanes given ys idle.1 h.1)

-- lanes that are given nothing begin with what they have
pub none_next : (lanes ys : List Lane) → Pairs (λ x y. to_do y ≡ x.works) lanes ys → Triples HasNextWorks lanes (nones lanes) ys
unfolding nones
none_next [] [] h = tt
none_next [] (y ∷ ys) h = elim h [ ]
none_next (x ∷ lanes) [] h = elim h [ ]
none_next (x ∷ lanes) (y ∷ ys) h = ((h.0 ∙ sym (append-nil x.works), inr refl, tt), none_next lanes ys h.1)

-- and lanes that had none with what they were given
pub given_next : (lanes lanes' ys : List Lane) → Pairs IsGiven lanes lanes' → Pairs (λ x y. to_do y ≡ x.works) lanes' ys
    → Triples HasNextWorks lanes (works_of lanes') ys
given_next [] [] [] g h = tt
given_next [] [] (y ∷ ys) g h = elim h [ ]
given_next [] (z ∷ lanes') ys g h = elim g [ ]
given_next (x ∷ lanes) [] ys g h = elim g [ ]
given_next (x ∷ lanes) (z ∷ lanes') [] g h = elim h [ ]
given_next (x ∷ lanes) (z ∷ lanes') (y ∷ ys) g h =
    ((h.0 ∙ ap (λ (l : List Work). l ++ z.works) (sym g.0.none), inl g.0.none, g.0.one), given_next lanes lanes' ys g.1 h.1)
