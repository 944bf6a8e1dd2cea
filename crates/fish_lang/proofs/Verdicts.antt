-- What the tokens lead to is what the language says of them, and nothing else is.
use Rattle.std.proofs.Common.{◌≡◌, ◌≢◌, ℕ, List, [], ◌∷◌, ◌++◌, refl, sym, ◌∙◌, ap, subst, append_assoc, append-nil, inl, inr}
use Rattle.std.specs.Prelude.{Option, Some, None, Result, Ok, Err}
use Rattle.fish_lang.specs.Definition.{Definition}
use Rattle.fish_lang.specs.Grammar.{Terminal, terminal, terminals, spelled}
use Rattle.fish_lang.specs.Derivation.{Derivation}
use Rattle.fish_lang.specs.Language.{kinds, unrefused, IsRead, BeginsWell, BeginsNone, Faulty, IsVerdict}
use Rattle.fish_lang.specs.within.Machine as machine
use Rattle.fish_lang.specs.within.Machine.{State}
use Rattle.fish_lang.specs.within.Moves.{advance, fault_at, finish}
use Rattle.fish_lang.specs.within.Outcome.{run, and_then, outcome_at, unless_unexpected, refusal_at}
use Rattle.fish_lang.specs.declared.parse.LangRefusal.{LangRefusal}
use Rattle.fish_lang.specs.declared.parse.LangRefusal.TheVariants as refusal
use Rattle.fish_lang.specs.declared.fault.Fault.{Fault}
use Rattle.fish_lang.specs.declared.fault.Fault.TheVariants.{TooDeep, NumberTooLarge, ZeroWidth}
use Rattle.fish_lang.specs.declared.token.Placed.{Placed}
use Rattle.fish_lang.proofs.Follows.{Follows, Follows-append, followed}
use Rattle.fish_lang.proofs.Trees.{start_tree, state_of, before}
use Rattle.fish_lang.proofs.Steps.{longer, placed_at}
use Rattle.fish_lang.proofs.Endings.{finishes, ends}
use Rattle.fish_lang.proofs.Ways.{leads-same, leads-on, Follows-front, unrefused-append, kinds-append, spelled-append}
use Rattle.fish_lang.proofs.Ways.{spelled-unrefused, reached-more, Reached}

reached-well : (ts : List Placed) (s : State) → Reached ts s → BeginsWell ts
reached-well ts s r =
    let f = finishes r.tree in
    record { tree = f.tree; more = f.more; real = f.real; spells = f.spells ∙ rw r.spells }

-- the tokens of what begins with positions
begins-with : (ts : List Placed) (p : Placed) (x : Terminal) (xs : List Terminal) (more : List Terminal)
    → x.token ≡ p.token → xs ≡ (unrefused ts ++ x ∷ []) ++ more → spelled xs ≡ kinds (ts ++ p ∷ [])
    ++ spelled more
begins-with ts p x xs more token e =
    ap spelled e ∙ rw (
      spelled-append (unrefused ts ++ x ∷ []) more,
      spelled-append (unrefused ts)
          (x ∷ []),
      spelled-unrefused ts,
      kinds-append ts (p ∷ []),
      token,
    )

-- the end of the tokens
verdict-end : (ts : List Placed) (s : State) (end : ℕ) (d : Option Definition) → Reached ts s
    → Follows machine.start (unrefused ts) s → finish s ≡ d → IsVerdict ts end (outcome_at d end)
verdict-end ts s end (Some d) r f e =
    let fits : finish (state_of r.tree) ≡ Some d = rw r.stands e in
    let whole = ends r.tree d fits in
    record { tree = whole.whole; spells = whole.spells ∙ r.spells; means = whole.means }
verdict-end ts s end None r f e =
    inr (
      refl,
      record {
        well = reached-well ts s r;
        none = λ tree same.
            let g = followed tree in
            let t : s ≡ g.state = leads-same (unrefused ts) (terminals tree) machine.start s g.state f
            g.follows (same ∙ sym (spelled-unrefused ts)) in
            cc (ap finish t, g.finishes);
      },
    )

verdict-fault : (fault : Fault) (ts : List Placed) (at end : ℕ) → Faulty fault ts at
    → IsVerdict ts end (Err (refusal_at fault at))
verdict-fault TooDeep ts at end h = h
verdict-fault NumberTooLarge ts at end h = h
verdict-fault ZeroWidth ts at end h = h

-- one token
verdict-turn : (ts : List Placed) (p : Placed) (ps : List Placed) (s : State) (end : ℕ)
    (a : Option State) (k : Option Fault) → Reached ts s → Follows machine.start (unrefused ts) s
    → advance s p.token ≡ a → fault_at s p.token ≡ k
    → ((u : State) → Reached (ts ++ p ∷ []) u → Follows machine.start (unrefused (ts ++ p ∷ [])) u
    → IsVerdict (ts ++ p ∷ ps) end (run u ps end))
    → IsVerdict (ts ++ p ∷ ps) end (and_then (unless_unexpected a k p.at) (λ next. run next ps end))
verdict-turn ts p ps s end None k r f e g rest =
    inl (record {
      before = ts;
      placed = p;
      behind = ps;
      splits = refl;
      position = refl;
      well = reached-well ts s r;
      none = λ tree more same.
          let h = followed tree in
          let front : spelled (terminals tree) ≡ spelled (unrefused ts) ++ p.token ∷ more = same
          ∙ rw (kinds-append ts (p ∷ []), spelled-unrefused ts, append_assoc) in
          let on = leads-on (unrefused ts) (terminals tree) machine.start s h.state p.token more f
          h.follows front in
          cc (e, on.1);
    })
verdict-turn ts p ps s end (Some u) (Some fault) r f e g rest =
    let fits : advance (state_of r.tree) p.token ≡ Some u = rw r.stands e in
    let l = longer r.tree p.token u fits in
    let whole = finishes l.next in
    verdict-fault fault (ts ++ p ∷ ps) p.at end (record {
      before = ts;
      placed = p;
      behind = ps;
      splits = refl;
      position = refl;
      tree = whole.tree;
      more = whole.more;
      real = whole.real;
      spells = whole.spells ∙ rw (l.spells, r.spells, r.stands, g, append_assoc);
    })
verdict-turn ts p ps s end (Some u) None r f e g rest =
    rest u (reached-more ts s p u r e g)
    (rw unrefused-append (Follows-append (unrefused ts) (terminal p.token ∷ []) machine.start s u f
    (u, e, g, refl)))

verdict : (before : List Placed) (s : State) (ts : List Placed) (end : ℕ) → Reached before s
    → Follows machine.start (unrefused before) s → IsVerdict (before ++ ts) end (run s ts end)
verdict before s [] end r f = rw append-nil (verdict-end before s end (finish s) r f refl)
verdict before s (p ∷ ps) end r f =
    verdict-turn before p ps s end (advance s p.token) (fault_at s p.token) r f refl refl
    (λ u reached follows. rw append_assoc at (verdict (before ++ p ∷ []) u ps end reached follows))

reached-start : Reached [] machine.start
reached-start = record { tree = start_tree; stands = refl; spells = refl }

-- what the tokens lead to is what they are
pub run-verdict : (ts : List Placed) (end : ℕ) → IsVerdict ts end (run machine.start ts end)
run-verdict ts end = verdict [] machine.start ts end reached-start refl

-- tokens of which none is refused are passed over
run-front : (before ts : List Placed) (s t : State) (end : ℕ) → Follows s (unrefused before) t
    → run s (before ++ ts) end ≡ run t ts end
run-front [] ts s t end f = ap (λ z. run z ts end) f
run-front (p ∷ before) ts s t end f = rw (f.1, f.2) (run-front before ts f.0 t end f.3)

reached-by : (before ts : List Placed) (s t : State) → Reached before s → Follows s (unrefused ts) t
    → Reached (before ++ ts) t
reached-by before [] s t r f = let P : State → Type 0 = λ z. Reached (before ++ []) z in
    subst P f (rw append-nil r)
reached-by before (p ∷ ts) s t r f =
    rw append_assoc at (reached-by (before ++ p ∷ []) ts f.0 t (reached-more before s p f.0 r f.1 f.2) f.3)

-- tokens with which a definition begins lead somewhere
record Passed (ts : List Placed) : Type 0 where
  state : State
  reached : Reached ts state
  follows : Follows machine.start (unrefused ts) state

passed : (ts : List Placed) → BeginsWell ts → Passed ts
passed ts well =
    let g = followed well.tree in
    let P : List Terminal → Type 0 = λ z. Follows machine.start z g.state in
    let front = Follows-front (unrefused ts) well.more machine.start g.state
    (subst P well.spells g.follows) in
    record {
      state = front.0;
      reached = reached-by [] ts machine.start front.0 reached-start
          front.1;
      follows = front.1;
    }

only-read : (ts : List Placed) (end : ℕ) (d : Definition) → IsRead ts d → run machine.start ts end ≡ Ok d
only-read ts end d h =
    let g = followed h.tree in
    let P : List Terminal → Type 0 = λ z. Follows machine.start z g.state in
    let way : Follows machine.start (unrefused ts) g.state = subst P h.spells g.follows in
    let all : run machine.start (ts ++ []) end ≡ run g.state [] end =
    run-front ts [] machine.start g.state end way in
    rw append-nil at all ∙ rw (g.finishes, h.means)

only-stop : (before : List Placed) (p : Placed) (behind : List Placed) (end : ℕ) (x : Passed before)
    (a : Option State) → advance x.state p.token ≡ a → BeginsNone (before ++ p ∷ [])
    → run machine.start (before ++ p ∷ behind) end ≡ Err (refusal.Unexpected p.at)
only-stop before p behind end x None e none = run-front before (p ∷ behind) machine.start x.state
    end x.follows ∙ rw e
only-stop before p behind end x (Some u) e none =
    let r = x.reached in
    let fits : advance (state_of r.tree) p.token ≡ Some u = rw r.stands e in
    let l = longer r.tree p.token u fits in
    let whole = finishes l.next in
    absurd (none whole.tree (spelled whole.more)
    (begins-with before p (placed_at (state_of r.tree) p.token) (terminals whole.tree) whole.more
    refl (whole.spells ∙ rw (l.spells, r.spells))))

only-end : (ts : List Placed) (end : ℕ) (x : Passed ts) (d : Option Definition) → finish x.state ≡ d
    → ((tree : Derivation) → spelled (terminals tree) ≢ kinds ts) → run machine.start ts end
    ≡ Err (refusal.Unexpected end)
only-end ts end x None e none =
    let all : run machine.start (ts ++ []) end ≡ run x.state [] end =
    run-front ts [] machine.start x.state end x.follows in
    rw append-nil at all ∙ rw e
only-end ts end x (Some d) e none =
    let r = x.reached in
    let fits : finish (state_of r.tree) ≡ Some d = rw r.stands e in
    let whole = ends r.tree d fits in
    absurd (none whole.whole (ap spelled (whole.spells ∙ r.spells) ∙ spelled-unrefused ts))

only-fault : (fault : Fault) (ts : List Placed) (at end : ℕ) → Faulty fault ts at
    → run machine.start ts end ≡ Err (refusal_at fault at)
only-fault fault ts at end h =
    let g = followed h.tree in
    let P : List Terminal → Type 0 = λ z. Follows machine.start z g.state in
    let front = Follows-front (unrefused h.before) _ machine.start g.state (subst P h.spells g.follows) in
    let rest = front.2 in
    rw (
      h.splits,
      run-front h.before (h.placed ∷ h.behind) machine.start front.0 end front.1,
      rest.1,
      rest.2,
      h.position,
    )

-- and nothing else is
pub run-only : (ts : List Placed) (end : ℕ) (due : Result Definition LangRefusal)
    → IsVerdict ts end due → run machine.start ts end ≡ due
run-only ts end (Ok d) h = only-read ts end d h
run-only ts end (Err (refusal.Unexpected at)) (inl h) =
    let x = passed h.before h.well in
    rw (
      h.splits,
      only-stop h.before h.placed h.behind end x (advance x.state h.placed.token) refl
          h.none,
      h.position,
    )
run-only ts end (Err (refusal.Unexpected at)) (inr h) =
    let x = passed ts h.1.well in
    rw h.0 (only-end ts end x (finish x.state) refl h.1.none)
run-only ts end (Err (refusal.TooDeep at)) h = only-fault TooDeep ts at end h
run-only ts end (Err (refusal.NumberTooLarge at)) h = only-fault NumberTooLarge ts at end h
run-only ts end (Err (refusal.ZeroWidth at)) h = only-fault ZeroWidth ts at end h
run-only ts end (Err (refusal.TooLong n)) h = absurd h
run-only ts end (Err refusal.OutOfMemory) h = absurd h
