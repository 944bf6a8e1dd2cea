-- A text is one script.
use Rattle.std.proofs.Common.{◌≡◌, ◌≢◌, ℕ, List, [], ◌∷◌, ◌++◌, refl, sym, ap, subst, ◌∙◌, append_assoc}
use Rattle.std.specs.Prelude.{Bool, true, false, Ok}
use Rattle.fish_lang.specs.Definition.{definition_of}
use Rattle.fish_script.proofs.Apart.{all_say_once, one_outcome}
use Rattle.fish_script.specs.Laws.{IsAlike, IsBlockAlike, Pairs}
use Rattle.fish_script.specs.Lines.{script_lines}
use Rattle.fish_script.specs.Refusals.{IsScript}
use Rattle.fish_script.specs.Script.{AreBlocks, AreLaneLines, AreStatementsRead, IsBlock, IsLineRead, ReadsStatement}
use Rattle.fish_script.specs.declared.script.Block.{Block}
use Rattle.fish_script.specs.declared.script.Statement.{Statement}
use Rattle.fish_script.specs.declared.script_line.StatementLine.{StatementLine}
use Rattle.fish_script.specs.declared.script_line.StatementLine.TheVariants as word
use Rattle.fish_script.specs.declared.script_line.ScriptLine.{ScriptLine}
use Rattle.fish_script.specs.declared.script_line.ScriptLine.TheVariants as said

-- ---- statements

-- two statements of one statement_line are alike
reads_alike : (w : StatementLine) (s t : Statement) → ReadsStatement w s → ReadsStatement w t → IsAlike s t
reads_alike (word.Register name source) s t x y =
    subst (λ (z : Statement). IsAlike z t) (sym x.1) (
      y.0,
      y.1,
      (let e = one_outcome source (Ok (definition_of x.0)) (Ok (definition_of y.0)) x.2 y.2 in cc),
    )
reads_alike (word.Deregister name) s t x y = subst (λ (z : Statement). IsAlike z t) (sym x) y
reads_alike (word.Ingest form header file) s t x y = subst (λ (z : Statement). IsAlike z t) (sym x) y
reads_alike (word.Scan look) s t x y = subst (λ (z : Statement). IsAlike z t) (sym x) y
reads_alike (word.Explain look) s t x y = subst (λ (z : Statement). IsAlike z t) (sym x) y
reads_alike word.Checkpoint s t x y = subst (λ (z : Statement). IsAlike z t) (sym x) y

-- and of one line
line_alike : (l : ScriptLine) (s t : Statement) → IsLineRead l s → IsLineRead l t → IsAlike s t
line_alike said.Lanes s t x y = absurd x
line_alike said.Lane s t x y = absurd x
line_alike said.End s t x y = absurd x
line_alike (said.Statement w) s t x y = reads_alike w s t x y

-- the statements of lines are alike
read_alike : (ws : List ScriptLine) (ss ts : List Statement) → AreStatementsRead ws ss → AreStatementsRead ws ts → Pairs IsAlike ss ts
read_alike [] [] [] x y = tt
read_alike [] [] (t ∷ ts) x y = absurd y
read_alike [] (s ∷ ss) ts x y = absurd x
read_alike (w ∷ ws) [] ts x y = absurd x
read_alike (w ∷ ws) (s ∷ ss) [] x y = absurd y
read_alike (w ∷ ws) (s ∷ ss) (t ∷ ts) x y = (line_alike w s t x.0 y.0, read_alike ws ss ts x.1 y.1)

-- ---- lanes

-- a line of a statement begins no lanes
no_statement : (ws rest : List ScriptLine) (l : ScriptLine) (s : Statement) (lanes : List (List Statement)) → AreLaneLines ws lanes
    → ws ≡ l ∷ rest → IsLineRead l s → ⊥
no_statement ws rest l s [] h e reads = (let no = sym h ∙ e in cc)
no_statement ws rest l s (ss ∷ lanes) h e reads =
    let first : said.Lane ≡ l = (let both = sym h.2 ∙ e in cc) in subst (λ (z : ScriptLine). IsLineRead z s) (sym first) reads

-- statements end where the next lane begins
cut_once : (own too others rest : List ScriptLine) (ss ts : List Statement) (lanes more : List (List Statement)) → AreStatementsRead own ss
    → AreStatementsRead too ts → AreLaneLines others lanes → AreLaneLines rest more → own ++ others ≡ too ++ rest → (own ≡ too)
    × (others ≡ rest)
cut_once [] [] others rest ss ts lanes more x y u v e = (refl, e)
cut_once [] (l ∷ too) others rest ss [] lanes more x y u v e = absurd y
cut_once [] (l ∷ too) others rest ss (t ∷ ts) lanes more x y u v e =
    absurd (no_statement others (too ++ rest) l t lanes u e y.0)
cut_once (l ∷ own) [] others rest [] ts lanes more x y u v e = absurd x
cut_once (l ∷ own) [] others rest (s ∷ ss) ts lanes more x y u v e =
    absurd (no_statement rest (own ++ others) l s more v (sym e) x.0)
cut_once (l ∷ own) (k ∷ too) others rest [] ts lanes more x y u v e = absurd x
cut_once (l ∷ own) (k ∷ too) others rest (s ∷ ss) [] lanes more x y u v e = absurd y
cut_once (l ∷ own) (k ∷ too) others rest (s ∷ ss) (t ∷ ts) lanes more x y u v e =
    let first : l ≡ k = cc in
    let behind : own ++ others ≡ too ++ rest = cc in
    let r = cut_once own too others rest ss ts lanes more x.1 y.1 u v behind in
    (λ i. first i ∷ r.0 i, r.1)

-- the lanes of lines are alike
lanes_alike : (ws : List ScriptLine) (lanes more : List (List Statement)) → AreLaneLines ws lanes → AreLaneLines ws more
    → Pairs (Pairs IsAlike) lanes more
lanes_alike ws [] [] x y = tt
lanes_alike ws [] (ts ∷ more) x y = absurd (let no = sym x ∙ y.2 in cc)
lanes_alike ws (ss ∷ lanes) [] x y = absurd (let no = sym y ∙ x.2 in cc)
lanes_alike ws (ss ∷ lanes) (ts ∷ more) x y =
    let whole : said.Lane ∷ (x.0 ++ x.1) ≡ said.Lane ∷ (y.0 ++ y.1) = sym x.2 ∙ y.2 in
    let behind : x.0 ++ x.1 ≡ y.0 ++ y.1 = cc in
    let r = cut_once x.0 y.0 x.1 y.1 ss ts lanes more x.3 y.3 x.4 y.4 behind in (
      read_alike x.0 ss ts x.3 (subst (λ (z : List ScriptLine). AreStatementsRead z ts) (sym r.0) y.3),
      lanes_alike x.1 lanes more x.4 (subst (λ (z : List ScriptLine). AreLaneLines z more) (sym r.1) y.4),
    )

-- ---- blocks

-- none of the lines is `end`
abbrev HasNoEnd : List ScriptLine → Type 0
HasNoEnd [] = Unit {0}
HasNoEnd (l ∷ ws) = (l ≢ said.End) × HasNoEnd ws

no_end_append : (xs ys : List ScriptLine) → HasNoEnd xs → HasNoEnd ys → HasNoEnd (xs ++ ys)
no_end_append [] ys x y = y
no_end_append (l ∷ xs) ys x y = (x.0, no_end_append xs ys x.1 y)

-- statements are none
statements_no_end : (ws : List ScriptLine) (ss : List Statement) → AreStatementsRead ws ss → HasNoEnd ws
statements_no_end [] ss h = tt
statements_no_end (l ∷ ws) [] h = absurd h
statements_no_end (l ∷ ws) (s ∷ ss) h =
    (λ is. subst (λ (z : ScriptLine). IsLineRead z s) is h.0, statements_no_end ws ss h.1)

-- nor are lanes
lanes_no_end : (ws : List ScriptLine) (lanes : List (List Statement)) → AreLaneLines ws lanes → HasNoEnd ws
lanes_no_end ws [] h = subst (λ (z : List ScriptLine). HasNoEnd z) (sym h) tt
lanes_no_end ws (ss ∷ lanes) h =
    subst (λ (z : List ScriptLine). HasNoEnd z) (sym h.2)
    (λ is. cc, no_end_append h.0 h.1 (statements_no_end h.0 ss h.3) (lanes_no_end h.1 lanes h.4))

-- a block ends at its first `end`
end_once : (xs ys us vs : List ScriptLine) → HasNoEnd xs → HasNoEnd ys → xs ++ said.End ∷ us ≡ ys ++ said.End ∷ vs
    → (xs ≡ ys) × (us ≡ vs)
end_once [] [] us vs x y e = (refl, let h : us ≡ vs = cc in h)
end_once [] (l ∷ ys) us vs x y e = absurd (y.0 (let h : said.End ≡ l = cc in sym h))
end_once (l ∷ xs) [] us vs x y e = absurd (x.0 (let h : l ≡ said.End = cc in h))
end_once (l ∷ xs) (k ∷ ys) us vs x y e =
    let first : l ≡ k = cc in
    let behind : xs ++ said.End ∷ us ≡ ys ++ said.End ∷ vs = cc in
    let r = end_once xs ys us vs x.1 y.1 behind in (λ i. first i ∷ r.0 i, r.1)

-- blocks at the front of the same lines are alike, and leave the same lines
record AreSame (others rest : List ScriptLine) (several too : Bool) (lanes more : List (List Statement)) : Type 0 where
  others_same : others ≡ rest
  kind : several ≡ too
  alike : Pairs (Pairs IsAlike) lanes more

block_once : (own too others rest : List ScriptLine) (several other : Bool) (lanes more : List (List Statement))
    → IsBlock own several lanes → IsBlock too other more → own ++ others ≡ too ++ rest
    → AreSame others rest several other lanes more
block_once own too others rest true true lanes more x y e =
    let whole : said.Lanes ∷ ((x.inside ++ said.End ∷ []) ++ others) ≡ said.Lanes ∷ ((y.inside ++ said.End ∷ []) ++ rest) =
    sym (ap (λ (z : List ScriptLine). z ++ others) x.lines) ∙ e ∙ ap (λ (z : List ScriptLine). z ++ rest) y.lines in
    let behind : (x.inside ++ said.End ∷ []) ++ others ≡ (y.inside ++ said.End ∷ []) ++ rest = cc in
    let ends : x.inside ++ said.End ∷ others ≡ y.inside ++ said.End ∷ rest =
    sym (append_assoc x.inside (said.End ∷ []) others) ∙ behind ∙ append_assoc y.inside (said.End ∷ []) rest in
    let r = end_once x.inside y.inside others rest (lanes_no_end x.inside lanes x.are) (lanes_no_end y.inside more y.are) ends in
    record {
      others_same = r.1;
      kind = refl;
      alike = lanes_alike x.inside lanes more x.are (subst (λ (z : List ScriptLine). AreLaneLines z more) (sym r.0) y.are);
    }
block_once own too others rest true false lanes more x y e =
    let whole : said.Lanes ∷ ((x.inside ++ said.End ∷ []) ++ others) ≡ y.line ∷ rest =
    sym (ap (λ (z : List ScriptLine). z ++ others) x.lines) ∙ e ∙ ap (λ (z : List ScriptLine). z ++ rest) y.lines in
    let first : said.Lanes ≡ y.line = cc in absurd (subst (λ (z : ScriptLine). IsLineRead z y.statement) (sym first) y.read)
block_once own too others rest false true lanes more x y e =
    let whole : x.line ∷ others ≡ said.Lanes ∷ ((y.inside ++ said.End ∷ []) ++ rest) =
    sym (ap (λ (z : List ScriptLine). z ++ others) x.lines) ∙ e ∙ ap (λ (z : List ScriptLine). z ++ rest) y.lines in
    let first : x.line ≡ said.Lanes = cc in absurd (subst (λ (z : ScriptLine). IsLineRead z x.statement) first x.read)
block_once own too others rest false false lanes more x y e =
    let whole : x.line ∷ others ≡ y.line ∷ rest =
    sym (ap (λ (z : List ScriptLine). z ++ others) x.lines) ∙ e ∙ ap (λ (z : List ScriptLine). z ++ rest) y.lines in
    let first : x.line ≡ y.line = cc in
    let behind : others ≡ rest = cc in
    let reads : IsLineRead x.line y.statement = subst (λ (z : ScriptLine). IsLineRead z y.statement) (sym first) y.read in
    record {
      others_same = behind;
      kind = refl;
      alike =
          subst (λ (z : List (List Statement)). Pairs (Pairs IsAlike) z more) (sym x.one)
          (subst (λ (z : List (List Statement)). Pairs (Pairs IsAlike) ((x.statement ∷ []) ∷ []) z) (sym y.one)
          ((line_alike x.line x.statement y.statement x.read reads, tt), tt));
    }

-- a block has a line
some_line : (own others : List ScriptLine) (several : Bool) (lanes : List (List Statement)) → IsBlock own several lanes
    → own ++ others ≡ [] → ⊥
some_line own others true lanes h e = (let no = sym (ap (λ (z : List ScriptLine). z ++ others) h.lines) ∙ e in cc)
some_line own others false lanes h e = (let no = sym (ap (λ (z : List ScriptLine). z ++ others) h.lines) ∙ e in cc)

-- the blocks of lines are alike
blocks_alike : (ws : List ScriptLine) (bs cs : List Block) → AreBlocks ws bs → AreBlocks ws cs → Pairs IsBlockAlike bs cs
blocks_alike ws [] [] x y = tt
blocks_alike ws [] (c ∷ cs) x y = absurd (some_line y.0 y.1 c.several c.lanes y.3 (sym y.2 ∙ x))
blocks_alike ws (b ∷ bs) [] x y = absurd (some_line x.0 x.1 b.several b.lanes x.3 (sym x.2 ∙ y))
blocks_alike ws (b ∷ bs) (c ∷ cs) x y =
    let s = block_once x.0 y.0 x.1 y.1 b.several c.several b.lanes c.lanes x.3 y.3 (sym x.2 ∙ y.2) in (
      (s.kind, s.alike),
      blocks_alike x.1 bs cs x.4 (subst (λ (z : List ScriptLine). AreBlocks z cs) (sym s.others_same) y.4),
    )

-- a text is one script
pub one_script : (text : List ℕ) (one other : List Block) → IsScript text one → IsScript text other → Pairs IsBlockAlike one other
one_script text one other x y =
    let same : y.ws ≡ x.ws = all_say_once (script_lines text) y.ws x.ws y.say x.say in
    blocks_alike x.ws one other x.blocks (subst (λ (z : List ScriptLine). AreBlocks z other) same y.blocks)
