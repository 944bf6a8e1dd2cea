-- The steps of a builder: one line more.
use Rattle.std.proofs.Common.{◌≡◌, ℕ, zero, suc, ◌+◌, ◌<◌, ◌≤◌, List, [], ◌∷◌, ◌++◌, refl, sym, ap, subst, ◌∙◌, arith}
use Rattle.std.specs.Prelude.{true, false, if◌then◌else◌}
use Rattle.fish_script.proofs.Appending.{place_push}
use Rattle.fish_script.proofs.Appending.{stand_push}
use Rattle.fish_script.specs.within.Building.{HasBuilt, IsInFront, IsScriptWritten, Pushes}
use Rattle.fish_script.specs.Limits.{most_lanes}
use Rattle.fish_script.specs.Positions.{Fits, IsPlaced, position_after}
use Rattle.fish_script.specs.Script.{AreBlocks, ReadsStatement, is_feed}
use Rattle.fish_script.specs.declared.builder.ScriptBuilder.{ScriptBuilder}
use Rattle.fish_script.specs.declared.builder.Position.{Position}
use Rattle.fish_script.specs.declared.builder.Position.TheVariants.{Outside, Inside}
use Rattle.fish_script.specs.declared.script.Block.{Block}
use Rattle.fish_script.specs.declared.script.Statement.{Statement}
use Rattle.fish_script.specs.declared.script_line.StatementLine.{StatementLine}
use Rattle.fish_script.specs.declared.script_line.ScriptLine.{ScriptLine}
use Rattle.fish_script.specs.declared.script_line.ScriptLine.TheVariants as said
use Rattle.fish_script.proofs.Writing.{place_statement, written_alone, written_end, written_first, written_lanes}
use Rattle.fish_script.proofs.Writing.{written_next, written_statement}

-- what is to be shown of one line more
pub built_next : (ws : List ScriptLine) (w : ScriptLine) (old new : ScriptBuilder) → HasBuilt ws old → IsPlaced old.position w
    → new.position ≡ position_after old.position w → IsScriptWritten (ws ++ w ∷ []) new.position new.blocks new.lanes new.lane
    → HasBuilt (ws ++ w ∷ []) new
built_next ws w old new h stands position written = record {
  position = place_push Outside ws w ∙ ap (λ (p : Position). position_after p w) h.position ∙ sym position;
  stand = stand_push Outside ws w h.stand (subst (λ (p : Position). IsPlaced p w) (sym h.position) stands);
  written = written;
}

-- ---- the steps of a builder

-- `lanes`
pub takes_lanes : (ws : List ScriptLine) (old : ScriptBuilder) → HasBuilt ws old → old.position ≡ Outside
    → HasBuilt (ws ++ said.Lanes ∷ []) (record old { position = Inside 0 0 })
takes_lanes ws old h is =
    built_next ws said.Lanes old (record old { position = Inside 0 0 }) h
    (subst (λ (p : Position). IsPlaced p said.Lanes) (sym is) (λ no. no, tt)) refl
    (written_lanes ws old.blocks old.lanes old.lane
    (subst (λ (p : Position). IsScriptWritten ws p old.blocks old.lanes old.lane) is h.written))

-- the first `lane`
pub takes_first : (ws : List ScriptLine) (old : ScriptBuilder) (feeds : ℕ) → HasBuilt ws old → old.position ≡ Inside 0 feeds
    → HasBuilt (ws ++ said.Lane ∷ []) (record old { position = Inside 1 feeds })
takes_first ws old feeds h is =
    built_next ws said.Lane old (record old { position = Inside 1 feeds }) h
    (subst (λ (p : Position). IsPlaced p said.Lane) (sym is) (λ no. no, omega arith))
    (ap (λ (p : Position). position_after p said.Lane) (sym is))
    (written_first ws feeds old.blocks old.lanes old.lane
    (subst (λ (p : Position). IsScriptWritten ws p old.blocks old.lanes old.lane) is h.written))

-- a later `lane`
pub takes_next : (ws : List ScriptLine) (old new : ScriptBuilder) (begun feeds : ℕ) → HasBuilt ws old → old.position ≡ Inside begun feeds
    → 1 ≤ begun → begun < most_lanes → new.position ≡ Inside (begun + 1) feeds → new.blocks ≡ old.blocks
    → new.lanes ≡ old.lanes ++ old.lane ∷ [] → new.lane ≡ [] → HasBuilt (ws ++ said.Lane ∷ []) new
takes_next ws old new zero feeds h is some room position blocks lanes lane = absurd (omega arith)
takes_next ws old new (suc more) feeds h is some room position blocks lanes lane =
    built_next ws said.Lane old new h
    (subst (λ (p : Position). IsPlaced p said.Lane) (sym is) (λ no. no, room))
    (position ∙ ap (λ (p : Position). position_after p said.Lane) (sym is))
    (subst (λ (p : Position). IsScriptWritten (ws ++ said.Lane ∷ []) p new.blocks new.lanes new.lane) (sym position)
    (let e : suc (suc more) ≡ suc more + 1 = omega arith in
    subst (λ (n : ℕ). IsScriptWritten (ws ++ said.Lane ∷ []) (Inside n feeds) new.blocks new.lanes new.lane) e
    (subst (λ (z : List Block). IsScriptWritten (ws ++ said.Lane ∷ []) (Inside (suc (suc more)) feeds) z new.lanes new.lane) (sym blocks)
    (subst (λ (z : List (List Statement)). IsScriptWritten (ws ++ said.Lane ∷ []) (Inside (suc (suc more)) feeds) old.blocks z new.lane)
    (sym lanes)
    (subst (λ (z : List Statement). IsScriptWritten (ws ++ said.Lane ∷ []) (Inside (suc (suc more)) feeds) old.blocks
    (old.lanes ++ old.lane ∷ []) z) (sym lane)
    (written_next ws more feeds old.blocks old.lanes old.lane
    (subst (λ (p : Position). IsScriptWritten ws p old.blocks old.lanes old.lane) is h.written) room))))))

-- `end`
pub takes_end : (ws : List ScriptLine) (old new : ScriptBuilder) (begun feeds : ℕ) → HasBuilt ws old → old.position ≡ Inside begun feeds
    → 1 ≤ begun → new.position ≡ Outside
    → new.blocks ≡ old.blocks ++ record { several = true; lanes = old.lanes ++ old.lane ∷ [] } ∷ []
    → new.lanes ≡ [] → new.lane ≡ [] → HasBuilt (ws ++ said.End ∷ []) new
takes_end ws old new zero feeds h is some position blocks lanes lane = absurd (omega arith)
takes_end ws old new (suc more) feeds h is some position blocks lanes lane =
    built_next ws said.End old new h
    (subst (λ (p : Position). IsPlaced p said.End) (sym is) (λ no. omega arith, tt))
    (position ∙ ap (λ (p : Position). position_after p said.End) (sym is))
    (subst (λ (p : Position). IsScriptWritten (ws ++ said.End ∷ []) p new.blocks new.lanes new.lane) (sym position) (
      subst (λ (z : List Block). AreBlocks (ws ++ said.End ∷ []) z) (sym blocks)
          (written_end ws more feeds old.blocks old.lanes old.lane
          (subst (λ (p : Position). IsScriptWritten ws p old.blocks old.lanes old.lane) is h.written)),
      lanes,
      lane,
    ))

-- a statement
pub takes_statement : (ws : List ScriptLine) (old new : ScriptBuilder) (w : StatementLine) (s : Statement) → HasBuilt ws old
    → ¬ IsInFront old.position → ReadsStatement w s → Fits old.position s → Pushes old.position s old new
    → HasBuilt (ws ++ said.Statement w ∷ []) new
takes_statement ws old new w s h ahead reads fits pushes = at old.position refl
  where
    at : (p : Position) → old.position ≡ p → HasBuilt (ws ++ said.Statement w ∷ []) new
    at Outside is =
        let e : new ≡ record old { blocks = old.blocks ++ record { several = false; lanes = (s ∷ []) ∷ [] } ∷ [] } =
        subst (λ (p : Position). Pushes p s old new) is pushes in
        let was : IsScriptWritten ws Outside old.blocks old.lanes old.lane =
        subst (λ (p : Position). IsScriptWritten ws p old.blocks old.lanes old.lane) is h.written in
        subst (λ (d : ScriptBuilder). HasBuilt (ws ++ said.Statement w ∷ []) d) (sym e)
        (built_next ws (said.Statement w) old
        (record old { blocks = old.blocks ++ record { several = false; lanes = (s ∷ []) ∷ [] } ∷ [] }) h
        (subst (λ (p : Position). IsPlaced p (said.Statement w)) (sym is) (λ no. no, (s, reads, tt)))
        (is ∙ ap (λ (p : Position). position_after p (said.Statement w)) (sym is))
        (subst (λ (p : Position). IsScriptWritten (ws ++ said.Statement w ∷ []) p
        (old.blocks ++ record { several = false; lanes = (s ∷ []) ∷ [] } ∷ []) old.lanes old.lane) (sym is)
        (written_alone ws old.blocks w s was.0 reads, was.1, was.2)))
    at (Inside begun feeds) is =
        let e : new ≡ record old { lane = old.lane ++ s ∷ []; position = Inside begun (if is_feed s then feeds + 1 else feeds) } =
        subst (λ (p : Position). Pushes p s old new) is pushes in
        let was : IsScriptWritten ws (Inside begun feeds) old.blocks old.lanes old.lane =
        subst (λ (p : Position). IsScriptWritten ws p old.blocks old.lanes old.lane) is h.written in
        let kept : Fits (Inside begun feeds) s = subst (λ (p : Position). Fits p s) is fits in
        let some : ¬ (begun ≡ 0) = subst (λ (p : Position). ¬ IsInFront p) is ahead in
        subst (λ (d : ScriptBuilder). HasBuilt (ws ++ said.Statement w ∷ []) d) (sym e)
        (built_next ws (said.Statement w) old
        (record old { lane = old.lane ++ s ∷ []; position = Inside begun (if is_feed s then feeds + 1 else feeds) }) h
        (subst (λ (p : Position). IsPlaced p (said.Statement w)) (sym is) (some, (s, reads, kept)))
        (place_statement begun feeds w s reads ∙ ap (λ (p : Position). position_after p (said.Statement w)) (sym is))
        (written_statement ws begun feeds old.blocks old.lanes old.lane w s was (omega arith) reads kept))
