-- Linked places and chains that a step leaves.
use Rattle.std.proofs.Common.{◌≡◌, ◌≢◌, ℕ, ◌+◌, ◌*◌, ◌<◌, ◌≤◌, List, set, sym, refl, ◌∙◌, subst, inl, inr, ⊎_elim}
use Rattle.std.proofs.Common.{arith}
use Rattle.std.proofs.Math.Decide.{ℕ_discrete}
use Rattle.fish_rule.proofs.basics.Context.{Flight, Key, Rule, View, World, get_elem?, some}
use Rattle.atomic_table.proofs.Lists.{at_set, set_else, set_here}
use Rattle.fish_layout.proofs.Spelled.{spelled_lines}
use Rattle.fish_layout.specs.Header.{keys_of, lines_of}
use Rattle.fish_rule.proofs.basics.Bodies.{body_same}
use Rattle.fish_rule.proofs.basics.ChainOrder.{chain_same}
use Rattle.fish_rule.proofs.basics.Lists.{within_list}
use Rattle.fish_rule.proofs.classes.OtherViews.{one_view}
use Rattle.fish_rule.specs.Chains.{Chain, IsKeyEntry, IsLinking, IsStoredAt, Linked, LinksAt, Shows}
use Rattle.fish_rule.specs.Parts.{IsWholeFlight, first_head}
use Rattle.fish_rule.specs.Regions.{IsRecord}
use Rattle.fish_rule.specs.World.{body}

-- ---- one view in place of another

module _ (vs : List View) (id : ℕ) (v v' : View) (at : get_elem? vs id ≡ some v) where
  -- an entry stays linked where the stepping pass keeps it so
  pub linking_to : (a c : ℕ) → (LinksAt a c v.flight → LinksAt a c v'.flight) → IsLinking a c vs
      → IsLinking a c (set vs id v')
  linking_to a c keep h = pick (ℕ_discrete h.seat id)
    where
      pick : Dec (h.seat ≡ id) → IsLinking a c (set vs id v')
      pick (yes e) =
          let same : h.view ≡ v = one_view vs id h.view v (subst (λ (z : ℕ). get_elem? vs z ≡ some h.view) e h.at) at in
          record {
            seat = id;
            view = v';
            at = set_here vs id v' (within_list vs id v at);
            links = keep (subst (λ (z : View). LinksAt a c z.flight) same h.links);
          }
      pick (no ne) = record { seat = h.seat; view = h.view; at = set_else vs id h.seat v' ne ∙ h.at; links = h.links }

  -- and was linked before where the stepping pass had it so
  pub linking_from : (a c : ℕ) → (LinksAt a c v'.flight → IsLinking a c vs) → IsLinking a c (set vs id v')
      → IsLinking a c vs
  linking_from a c back h = ⊎_elim
      (λ (t : (h.seat ≡ id) × (v' ≡ h.view)). back (subst (λ (z : View). LinksAt a c z.flight) (sym t.1) h.links))
      (λ (t : (h.seat ≢ id) × (get_elem? vs h.seat ≡ some h.view)). record {
        seat = h.seat;
        view = h.view;
        at = t.1;
        links = h.links;
      })
      (at_set vs id h.seat v' h.view h.at)

  -- the pass's own linked entries
  pub linking_own : (a c : ℕ) → LinksAt a c v.flight → IsLinking a c vs
  linking_own a c h = record { seat = id; view = v; at = at; links = h }

-- ---- places that stay

-- a place stays linked where its entry stays shown, in the same body
pub linked_map : (k : Key) (dir dir' log log' : ℕ → ℕ) (vs vs' : List View)
    → ((a c : ℕ) → Shows k dir vs a c → Shows k dir' vs' a c)
    → ((a c : ℕ) → Shows k dir vs a c → body log' a ≡ body log a)
    → (b p : ℕ) → Linked k dir log vs b p → Linked k dir' log' vs' b p
linked_map k dir dir' log log' vs vs' shows same b p h =
    let e : body log' h.line ≡ body log h.line = same h.line h.entry h.shows in
    record {
      line = h.line;
      entry = h.entry;
      is = subst (λ (z : ℕ → ℕ). IsKeyEntry k.buckets z b p h.line h.entry) (sym e) h.is;
      shows = shows h.line h.entry h.shows;
    }

-- the same where what is shown may rest on how many entries there are
pub linked_counted : (k : Key) (dir dir' log : ℕ → ℕ) (vs vs' : List View)
    → ((a c : ℕ) → c < keys_of (body log a 0) → Shows k dir vs a c → Shows k dir' vs' a c) → (b p : ℕ)
    → Linked k dir log vs b p → Linked k dir' log vs' b p
linked_counted k dir dir' log vs vs' shows b p h =
    record { line = h.line; entry = h.entry; is = h.is; shows = shows h.line h.entry h.is.counts h.shows }

-- a record in flight that is whole stays so where its region's words do
pub whole_later : (k : Key) (log log' : ℕ → ℕ) (lane : ℕ) (f : Flight) → 1 ≤ f.lines
    → ((i : ℕ) → i < f.lines * 4 → log' (f.line * 4 + i) ≡ log (f.line * 4 + i)) → IsWholeFlight k log lane f
    → IsWholeFlight k log' lane f
whole_later k log log' lane f some_ same h =
    let lined : lines_of (body log f.line 0) ≡ f.lines = spelled_lines h.record_of.1.spells ∙ h.record_of.1.lines_is in
    let e : body log' f.line ≡ body log f.line = body_same log log' f.line f.lines some_ (omega arith) same in
    record {
      kind = h.kind;
      full = h.full;
      record_of = subst (IsRecord lane f.number f.lines) (sym e) h.record_of;
      upto = subst (λ (z : ℕ → ℕ). f.linked ≤ keys_of (z 0)) (sym e) h.upto;
    }

-- ---- chains that stay

-- where no place is linked anew, and no linked place's first word changes, the chains stay
pub chains_same : (k : Key) (dir dir' log log' : ℕ → ℕ) (vs vs' : List View) (head : ℕ → ℕ)
    → ((b p : ℕ) → Linked k dir log vs b p → Linked k dir' log' vs' b p)
    → ((b p : ℕ) → Linked k dir' log' vs' b p → Linked k dir log vs b p)
    → ((b p : ℕ) → Linked k dir log vs b p → log' p ≡ log p)
    → ((b : ℕ) → Chain (Linked k dir log vs b) (first_head k b) (head b) log) → (b : ℕ)
    → Chain (Linked k dir' log' vs' b) (first_head k b) (head b) log'
chains_same k dir dir' log log' vs vs' head to from same chains b =
    chain_same (Linked k dir log vs b) (Linked k dir' log' vs' b) (first_head k b) (head b) log log' (to b) (from b) (same b) (chains b)

module _ {k : Key} {w : World} (r : Rule k w) (views' : List View)
    (to : (a c : ℕ) → IsLinking a c w.views → IsLinking a c views') where
  -- places stay linked where what is linked in flight stays so
  pub links_views : (b p : ℕ) → Linked k w.dir w.log w.views b p → Linked k w.dir w.log views' b p
  links_views = linked_map k w.dir w.dir w.log w.log w.views views'
      (λ a c h. ⊎_elim (λ (s : IsStoredAt k w.dir a). inl s) (λ (l : IsLinking a c w.views). inr (to a c l)) h)
      (λ a c h. refl)

  -- and the chains stay where nothing is linked anew
  pub chains_views : ((a c : ℕ) → IsLinking a c views' → IsLinking a c w.views) → (b : ℕ)
      → Chain (Linked k w.dir w.log views' b) (first_head k b) (w.head b) w.log
  chains_views from = chains_same k w.dir w.dir w.log w.log w.views views' w.head links_views
      (linked_map k w.dir w.dir w.log w.log views' w.views
      (λ a c h. ⊎_elim (λ (s : IsStoredAt k w.dir a). inl s)
      (λ (l : IsLinking a c views'). inr (from a c l)) h) (λ a c h. refl))
      (λ b p h. refl) r.chains

module _ {k : Key} {w : World} (r : Rule k w) (id : ℕ) {v : View} (v' : View) (at : get_elem? w.views id ≡ some v)
    (keep : (a c : ℕ) → LinksAt a c v.flight → LinksAt a c v'.flight) where
  -- the same where one view stands in place of another
  pub links_set : (b p : ℕ) → Linked k w.dir w.log w.views b p → Linked k w.dir w.log (set w.views id v') b p
  links_set = links_views r (set w.views id v') (λ a c. linking_to w.views id v v' at a c (keep a c))

  -- and chains are as they were
  pub chains_set : ((a c : ℕ) → LinksAt a c v'.flight → LinksAt a c v.flight) → (b : ℕ)
      → Chain (Linked k w.dir w.log (set w.views id v') b) (first_head k b) (w.head b) w.log
  chains_set back = chains_views r (set w.views id v') (λ a c. linking_to w.views id v v' at a c (keep a c))
      (λ a c. linking_from w.views id v v' at a c (λ h. linking_own w.views id v v' at a c (back a c h)))
