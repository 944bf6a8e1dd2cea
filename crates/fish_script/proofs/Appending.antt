-- Lines and what they are, with one more after the others.
use Rattle.std.proofs.Common.{◌≡◌, suc, ◌+◌, ◌≤◌, List, [], ◌∷◌, ◌++◌, refl, sym, ap, ◌∙◌, arith, length, append_assoc}
use Rattle.std.specs.Prelude.{Bool, true, false, count_by}
use Rattle.std.proofs.lemmas.List.{append-nil}
use Rattle.fish_script.specs.Positions.{AllStand, IsPlaced, position_after, position_from}
use Rattle.fish_script.specs.Script.{AllFree, AreBlocks, AreFree, AreLaneLines, AreStatementsRead, IsBlock, IsLineRead, OthersFree}
use Rattle.fish_script.specs.Script.{feeds_of, is_control, is_feed}
use Rattle.fish_script.specs.declared.builder.Position.{Position}
use Rattle.fish_script.specs.declared.script.Block.{Block}
use Rattle.fish_script.specs.declared.script.Statement.{Statement}
use Rattle.fish_script.specs.declared.script_line.ScriptLine.{ScriptLine}
use Rattle.fish_script.specs.declared.script_line.ScriptLine.TheVariants as said

-- the position after one line more
pub place_push : (p : Position) (ws : List ScriptLine) (w : ScriptLine)
    → position_from p (ws ++ w ∷ []) ≡ position_after (position_from p ws) w
place_push p [] w = refl
place_push p (x ∷ ws) w = place_push (position_after p x) ws w

-- all are in order with one line more that is
pub stand_push : (p : Position) (ws : List ScriptLine) (w : ScriptLine) → AllStand p ws → IsPlaced (position_from p ws) w
    → AllStand p (ws ++ w ∷ [])
stand_push p [] w h here = (here, tt)
stand_push p (x ∷ ws) w h here = (h.0, stand_push (position_after p x) ws w h.1 here)

-- one statement more
pub read_push : (ws : List ScriptLine) (ss : List Statement) (w : ScriptLine) (s : Statement) → AreStatementsRead ws ss → IsLineRead w s
    → AreStatementsRead (ws ++ w ∷ []) (ss ++ s ∷ [])
read_push [] [] w s h here = (here, tt)
read_push [] (t ∷ ss) w s h here = absurd h
read_push (x ∷ ws) [] w s h here = absurd h
read_push (x ∷ ws) (t ∷ ss) w s h here = (h.0, read_push ws ss w s h.1 here)

-- one lane more
pub lanes_push : (ws own : List ScriptLine) (lanes : List (List Statement)) (lane : List Statement) → AreLaneLines ws lanes
    → AreStatementsRead own lane
    → AreLaneLines (ws ++ said.Lane ∷ own) (lanes ++ lane ∷ [])
lanes_push ws own [] lane h here = (
  own,
  [],
  ap (λ (z : List ScriptLine). z ++ said.Lane ∷ own) h
      ∙ ap (λ (z : List ScriptLine). said.Lane ∷ z) (sym (append-nil own)),
  here,
  refl,
)
lanes_push ws own (l ∷ lanes) lane h here = (
  h.0,
  h.1 ++ said.Lane ∷ own,
  ap (λ (z : List ScriptLine). z ++ said.Lane ∷ own) h.2
      ∙ ap (λ (z : List ScriptLine). said.Lane ∷ z) (append_assoc h.0 h.1 (said.Lane ∷ own)),
  h.3,
  lanes_push h.1 own lanes lane h.4 here,
)

-- one block more
pub blocks_push : (ws own : List ScriptLine) (bs : List Block) (b : Block) → AreBlocks ws bs → IsBlock own b.several b.lanes
    → AreBlocks (ws ++ own) (bs ++ b ∷ [])
blocks_push ws own [] b h here =
    (own, [], ap (λ (z : List ScriptLine). z ++ own) h ∙ sym (append-nil own), here, refl)
blocks_push ws own (c ∷ bs) b h here = (
  h.0,
  h.1 ++ own,
  ap (λ (z : List ScriptLine). z ++ own) h.2 ∙ append_assoc h.0 h.1 own,
  h.3,
  blocks_push h.1 own bs b h.4 here,
)

-- how many files one lane more stores
pub feeds_push : (lanes : List (List Statement)) (lane : List Statement) → feeds_of (lanes ++ lane ∷ [])
    ≡ feeds_of lanes + count_by is_feed lane
feeds_push [] lane = omega arith
feeds_push (l ∷ lanes) lane = omega (arith, feeds_push lanes lane)

-- a lane without a statement of control after others without one
pub free_push : (lanes : List (List Statement)) (lane : List Statement) → AllFree lanes → AreFree lane → AllFree (lanes ++ lane ∷ [])
free_push [] lane h here = (here, tt)
free_push (l ∷ lanes) lane h here = (h.0, free_push lanes lane h.1 here)

-- a statement that is none of control after others
free_one : (lane : List Statement) (s : Statement) → AreFree lane → is_control s ≡ false → AreFree (lane ++ s ∷ [])
free_one [] s h here = (here, tt)
free_one (t ∷ lane) s h here = (h.0, free_one lane s h.1 here)

-- the same in the last lane
free_last : (lanes : List (List Statement)) (lane : List Statement) (s : Statement) → AllFree (lanes ++ lane ∷ [])
    → is_control s ≡ false → AllFree (lanes ++ (lane ++ s ∷ []) ∷ [])
free_last [] lane s h here = (free_one lane s h.0 here, tt)
free_last (l ∷ lanes) lane s h here = (h.0, free_last lanes lane s h.1 here)

-- a lane begins after others
pub others_begin : (lanes : List (List Statement)) (lane : List Statement) → OthersFree (lanes ++ lane ∷ [])
    → OthersFree ((lanes ++ lane ∷ []) ++ [] ∷ [])
others_begin [] lane h = (tt, tt)
others_begin (l ∷ lanes) lane h = free_push (lanes ++ lane ∷ []) [] h tt

-- one statement more in the last lane: one of control in the first lane alone
pub others_push : (lanes : List (List Statement)) (lane : List Statement) (s : Statement) → OthersFree (lanes ++ lane ∷ [])
    → (is_control s ≡ true → suc (length lanes) ≤ 1) → OthersFree (lanes ++ (lane ++ s ∷ []) ∷ [])
others_push [] lane s h first = tt
others_push (l ∷ lanes) lane s h first = free_last lanes lane s h (no_control (is_control s) refl)
  where
    no_control : (b : Bool) → is_control s ≡ b → is_control s ≡ false
    no_control true is = absurd (omega (arith, first is))
    no_control false is = is
