-- Each line of a script is in order where it stands, and a script ends outside of its blocks.
use Rattle.std.proofs.Common.{◌≡◌, ℕ, suc, ◌+◌, ◌<◌, ◌≤◌, List, [], ◌∷◌, ◌++◌, ◌⊎◌, inl, inr, refl, sym, ap, subst, ◌∙◌}
use Rattle.std.proofs.Common.{arith, length, cond}
use Rattle.std.specs.Prelude.{Bool, true, false, count_by, if◌then◌else◌}
use Rattle.std.proofs.lemmas.List.Sums.{sum_by-cons}
use Rattle.fish_script.proofs.Writing.{feed_read}
use Rattle.fish_script.specs.Limits.{most_feeds, most_lanes}
use Rattle.fish_script.specs.Positions.{AllStand, IsPlaced, position_after, position_from}
use Rattle.fish_script.specs.Script.{AllFree, AreBlocks, AreFree, AreLaneLines, AreStatementsRead, IsBlock, IsLineRead, OthersFree}
use Rattle.fish_script.specs.Script.{feeds_of, is_control, is_feed}
use Rattle.fish_script.specs.declared.builder.Position.{Position}
use Rattle.fish_script.specs.declared.builder.Position.TheVariants.{Outside, Inside}
use Rattle.fish_script.specs.declared.script.Block.{Block}
use Rattle.fish_script.specs.declared.script.Statement.{Statement}
use Rattle.fish_script.specs.declared.script_line.ScriptLine.{ScriptLine}
use Rattle.fish_script.specs.declared.script_line.ScriptLine.TheVariants as said

-- from a position on these lines are in order, and lead to another position
pub record Leads (p : Position) (ws : List ScriptLine) (q : Position) : Type 0 where
  pub stand : AllStand p ws
  pub position : position_from p ws ≡ q

-- no line
pub leads_none : (p : Position) → Leads p [] p
leads_none p = record { stand = tt; position = refl }

-- one line more in front
pub leads_line : (p q r : Position) (l : ScriptLine) (ws : List ScriptLine) → IsPlaced p l → position_after p l ≡ q → Leads q ws r
    → Leads p (l ∷ ws) r
leads_line p q r l ws here e h = record {
  stand = (here, subst (λ (z : Position). AllStand z ws) (sym e) h.stand);
  position = ap (λ (z : Position). position_from z ws) e ∙ h.position;
}

-- lines after others
pub leads_append : (p q r : Position) (xs ys : List ScriptLine) → Leads p xs q → Leads q ys r → Leads p (xs ++ ys) r
leads_append p q r [] ys h k = subst (λ (z : Position). Leads z ys r) (sym h.position) k
leads_append p q r (x ∷ xs) ys h k =
    leads_line p (position_after p x) r x (xs ++ ys) h.stand.0 refl
    (leads_append (position_after p x) q r xs ys (record { stand = h.stand.1; position = h.position }) k)

-- the statements of a lane: those of control in the first lane alone
stand_statements : (ws : List ScriptLine) (ss : List Statement) (k f : ℕ) → AreStatementsRead ws ss → 1 ≤ k → (k ≤ 1) ⊎ AreFree ss
    → f + count_by is_feed ss ≤ most_feeds → Leads (Inside k f) ws (Inside k (f + count_by is_feed ss))
stand_statements [] [] k f h some free few =
    let e : f ≡ f + 0 = omega arith in subst (λ (n : ℕ). Leads (Inside k f) [] (Inside k n)) e (leads_none (Inside k f))
stand_statements [] (s ∷ ss) k f h some free few = absurd h
stand_statements (w ∷ ws) [] k f h some free few = absurd h
stand_statements (said.Lanes ∷ ws) (s ∷ ss) k f h some free few = absurd h.0
stand_statements (said.Lane ∷ ws) (s ∷ ss) k f h some free few = absurd h.0
stand_statements (said.End ∷ ws) (s ∷ ss) k f h some free few = absurd h.0
stand_statements (said.Statement w ∷ ws) (s ∷ ss) k f h some free few =
    let next : ℕ = if is_feed s then f + 1 else f in
    let sum : next + count_by is_feed ss ≡ f + count_by is_feed (s ∷ ss) = one_more (is_feed s) refl in
    leads_line (Inside k f) (Inside k next) (Inside k (f + count_by is_feed (s ∷ ss))) (said.Statement w) ws
    (λ no. absurd (omega arith), (s, h.0, (control free, feed)))
    (ap (λ (n : ℕ). Inside k n) (sym (feed_read f w s h.0)))
    (subst (λ (n : ℕ). Leads (Inside k next) ws (Inside k n)) sum
    (stand_statements ws ss k next h.1 some (others free) (omega (arith, sum))))
  where
    one_more : (b : Bool) → is_feed s ≡ b → (if is_feed s then f + 1 else f) + count_by is_feed ss ≡ f + count_by is_feed (s ∷ ss)
    one_more true is =
        let first : count_by is_feed (s ∷ ss) ≡ 1 + count_by is_feed ss =
        sum_by-cons (λ (t : Statement). cond (is_feed t) 1 0) s ss ∙ ap (λ (b : Bool). cond b 1 0 + count_by is_feed ss) is in
        let sum : f + 1 + count_by is_feed ss ≡ f + count_by is_feed (s ∷ ss) = omega arith in
        subst (λ (b : Bool). (if b then f + 1 else f) + count_by is_feed ss ≡ f + count_by is_feed (s ∷ ss)) (sym is) sum
    one_more false is =
        let first : count_by is_feed (s ∷ ss) ≡ 0 + count_by is_feed ss =
        sum_by-cons (λ (t : Statement). cond (is_feed t) 1 0) s ss ∙ ap (λ (b : Bool). cond b 1 0 + count_by is_feed ss) is in
        let sum : f + count_by is_feed ss ≡ f + count_by is_feed (s ∷ ss) = omega arith in
        subst (λ (b : Bool). (if b then f + 1 else f) + count_by is_feed ss ≡ f + count_by is_feed (s ∷ ss)) (sym is) sum

    control : (k ≤ 1) ⊎ AreFree (s ∷ ss) → is_control s ≡ true → k ≤ 1
    control (inl first) is = first
    control (inr clear) is = absurd (let no = clear.0 in cc)

    others : (k ≤ 1) ⊎ AreFree (s ∷ ss) → (k ≤ 1) ⊎ AreFree ss
    others (inl first) = inl first
    others (inr clear) = inr clear.1

    feed : is_feed s ≡ true → f < most_feeds
    feed is =
        let first : count_by is_feed (s ∷ ss) ≡ 1 + count_by is_feed ss =
        sum_by-cons (λ (t : Statement). cond (is_feed t) 1 0) s ss ∙ ap (λ (b : Bool). cond b 1 0 + count_by is_feed ss) is in
        omega (arith, few)

-- the lanes of a block, after so many
stand_lanes : (ws : List ScriptLine) (lanes : List (List Statement)) (k f : ℕ) → AreLaneLines ws lanes → k + length lanes ≤ most_lanes
    → f + feeds_of lanes ≤ most_feeds → ((k ≡ 0) × OthersFree lanes) ⊎ AllFree lanes
    → Leads (Inside k f) ws (Inside (k + length lanes) (f + feeds_of lanes))
stand_lanes ws [] k f h few few_feeds free =
    let e : k ≡ k + 0 = omega arith in let g : f ≡ f + 0 = omega arith in
    subst (λ (z : List ScriptLine). Leads (Inside k f) z (Inside (k + 0) (f + 0))) (sym h)
    (subst (λ (n : ℕ). Leads (Inside k f) [] (Inside n (f + 0))) e
    (subst (λ (n : ℕ). Leads (Inside k f) [] (Inside k n)) g (leads_none (Inside k f))))
stand_lanes ws (ss ∷ lanes) k f h few few_feeds free =
    let own : List ScriptLine = h.0 in
    let count : ℕ = count_by is_feed ss in
    let len : k + 1 + length lanes ≡ k + suc (length lanes) = omega arith in
    let sum : f + count + feeds_of lanes ≡ f + (count + feeds_of lanes) = omega arith in
    subst (λ (z : List ScriptLine). Leads (Inside k f) z (Inside (k + suc (length lanes)) (f + (count + feeds_of lanes)))) (sym h.2)
    (subst (λ (n : ℕ). Leads (Inside k f) (said.Lane ∷ (own ++ h.1)) (Inside n (f + (count + feeds_of lanes)))) len
    (subst (λ (n : ℕ). Leads (Inside k f) (said.Lane ∷ (own ++ h.1)) (Inside (k + 1 + length lanes) n)) sum
    (leads_line (Inside k f) (Inside (k + 1) f) (Inside (k + 1 + length lanes) (f + count + feeds_of lanes)) said.Lane (own ++ h.1)
    (λ no. no, omega (arith, few)) refl
    (leads_append (Inside (k + 1) f) (Inside (k + 1) (f + count)) (Inside (k + 1 + length lanes) (f + count + feeds_of lanes)) own h.1
    (stand_statements own ss (k + 1) f h.3 (omega arith) (here free) (omega (arith, few_feeds)))
    (stand_lanes h.1 lanes (k + 1) (f + count) h.4 (omega (arith, few)) (omega (arith, few_feeds)) (others free))))))
  where
    here : ((k ≡ 0) × OthersFree (ss ∷ lanes)) ⊎ AllFree (ss ∷ lanes) → (k + 1 ≤ 1) ⊎ AreFree ss
    here (inl first) = inl (omega (arith, first.0))
    here (inr clear) = inr clear.0

    others : ((k ≡ 0) × OthersFree (ss ∷ lanes)) ⊎ AllFree (ss ∷ lanes) → ((k + 1 ≡ 0) × OthersFree lanes) ⊎ AllFree lanes
    others (inl first) = inr first.1
    others (inr clear) = inr clear.1

-- a block
stand_block : (own : List ScriptLine) (several : Bool) (lanes : List (List Statement)) → IsBlock own several lanes
    → Leads Outside own Outside
stand_block own true lanes h =
    subst (λ (z : List ScriptLine). Leads Outside z Outside) (sym h.lines)
    (leads_line Outside (Inside 0 0) Outside said.Lanes (h.inside ++ said.End ∷ []) (λ no. no, tt) refl
    (leads_append (Inside 0 0) (Inside (0 + length lanes) (0 + feeds_of lanes)) Outside h.inside (said.End ∷ [])
    (stand_lanes h.inside lanes 0 0 h.are (omega (arith, h.few)) (omega (arith, h.few_feeds)) (inl (refl, h.free)))
    (leads_line (Inside (0 + length lanes) (0 + feeds_of lanes)) Outside Outside said.End []
    (λ no. omega (arith, h.some, no), tt) refl (leads_none Outside))))
stand_block own false lanes h =
    subst (λ (z : List ScriptLine). Leads Outside z Outside) (sym h.lines) (alone h.line h.read)
  where
    alone : (l : ScriptLine) → IsLineRead l h.statement → Leads Outside (l ∷ []) Outside
    alone said.Lanes reads = absurd reads
    alone said.Lane reads = absurd reads
    alone said.End reads = absurd reads
    alone (said.Statement w) reads =
        leads_line Outside Outside Outside (said.Statement w) [] (λ no. no, (h.statement, reads, tt)) refl (leads_none Outside)

-- all blocks
pub stand_blocks : (ws : List ScriptLine) (bs : List Block) → AreBlocks ws bs → Leads Outside ws Outside
stand_blocks ws [] h = subst (λ (z : List ScriptLine). Leads Outside z Outside) (sym h) (leads_none Outside)
stand_blocks ws (b ∷ bs) h =
    subst (λ (z : List ScriptLine). Leads Outside z Outside) (sym h.2)
    (leads_append Outside Outside Outside h.0 h.1 (stand_block h.0 b.several b.lanes h.3) (stand_blocks h.1 bs h.4))
