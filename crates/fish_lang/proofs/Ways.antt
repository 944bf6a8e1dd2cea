-- Ways of tokens: the same tokens lead the same way, and to an unfinished derivation.
use Rattle.std.proofs.Common.{◌≡◌, List, [], ◌∷◌, ◌++◌, refl, sym, ◌∙◌, ap, subst}
use Rattle.std.specs.Prelude.{Some, None}
use Rattle.fish_lang.specs.Grammar.{Terminal, terminal, spelled}
use Rattle.fish_lang.specs.Language.{kinds, unrefused}
use Rattle.fish_lang.specs.within.Machine.{State}
use Rattle.fish_lang.specs.within.Moves.{advance, fault_at}
use Rattle.fish_lang.specs.declared.token.Token.{Token}
use Rattle.fish_lang.specs.declared.token.Placed.{Placed}
use Rattle.fish_lang.proofs.Follows.{Follows}
use Rattle.fish_lang.proofs.Trees.{Tree, state_of, before}
use Rattle.fish_lang.proofs.Steps.{longer}

-- the same tokens lead to the same state
pub leads-same : (xs ys : List Terminal) (s t u : State) → Follows s xs t → Follows s ys u → spelled ys
    ≡ spelled xs → t ≡ u
leads-same [] [] s t u f g e = sym f ∙ g
leads-same [] (y ∷ ys) s t u f g e = cc
leads-same (x ∷ xs) [] s t u f g e = cc
leads-same (x ∷ xs) (y ∷ ys) s t u f g e =
    let token : y.token ≡ x.token = cc in
    let same : g.0 ≡ f.0 = cc (f.1, g.1, ap (advance s) token) in
    let P : State → Type 0 = λ z. Follows z ys u in
    leads-same xs ys f.0 t u f.3 (subst P same g.3) cc

-- where a derivation goes on, the token fits
pub leads-on : (xs ys : List Terminal) (s t u : State) (x : Token) (more : List Token) → Follows s xs t
    → Follows s ys u → spelled ys ≡ spelled xs ++ x ∷ more → (v : State) × (advance t x ≡ Some v)
leads-on [] [] s t u x more f g e = cc
leads-on [] (y ∷ ys) s t u x more f g e =
    let token : y.token ≡ x = cc in
    (g.0, cc (f, g.1, ap (advance s) token))
leads-on (z ∷ xs) [] s t u x more f g e = cc
leads-on (z ∷ xs) (y ∷ ys) s t u x more f g e =
    let token : y.token ≡ z.token = cc in
    let same : g.0 ≡ f.0 = cc (f.1, g.1, ap (advance s) token) in
    let P : State → Type 0 = λ w. Follows w ys u in
    leads-on xs ys f.0 t u x more f.3 (subst P same g.3) cc

-- a way goes through the end of its front
pub Follows-front : (xs ys : List Terminal) (s u : State) → Follows s (xs ++ ys) u → (t : State)
    × Follows s xs t × Follows t ys u
Follows-front [] ys s u f = (s, refl, f)
Follows-front (x ∷ xs) ys s u f =
    let rest = Follows-front xs ys f.0 u f.3 in
    (rest.0, (f.0, f.1, f.2, rest.1), rest.2)

-- an unfinished derivation of tokens of which none is refused
pub record Reached (ts : List Placed) (s : State) : Type 0 where
  pub tree : Tree
  pub stands : state_of tree ≡ s
  pub spells : before tree ≡ unrefused ts

pub unrefused-append : (xs ys : List Placed) → unrefused (xs ++ ys) ≡ unrefused xs ++ unrefused ys
unrefused-append [] ys = refl
unrefused-append (x ∷ xs) ys = ap (λ zs. terminal x.token ∷ zs) (unrefused-append xs ys)

pub kinds-append : (xs ys : List Placed) → kinds (xs ++ ys) ≡ kinds xs ++ kinds ys
kinds-append [] ys = refl
kinds-append (x ∷ xs) ys = ap (λ zs. x.token ∷ zs) (kinds-append xs ys)

pub spelled-append : (xs ys : List Terminal) → spelled (xs ++ ys) ≡ spelled xs ++ spelled ys
spelled-append [] ys = refl
spelled-append (x ∷ xs) ys = ap (λ zs. x.token ∷ zs) (spelled-append xs ys)

pub spelled-unrefused : (ts : List Placed) → spelled (unrefused ts) ≡ kinds ts
spelled-unrefused [] = refl
spelled-unrefused (t ∷ ts) = ap (λ zs. t.token ∷ zs) (spelled-unrefused ts)

-- tokens that lead from the start have an unfinished derivation
pub reached-more : (ts : List Placed) (s : State) (p : Placed) (u : State) → Reached ts s
    → advance s p.token ≡ Some u → fault_at s p.token ≡ None → Reached (ts ++ p ∷ []) u
reached-more ts s p u r a f =
    let fits : advance (state_of r.tree) p.token ≡ Some u = rw r.stands a in
    let l = longer r.tree p.token u fits in
    record {
      tree = l.next;
      stands = l.stands;
      spells = l.spells ∙ rw (r.spells, r.stands, f, unrefused-append);
    }
