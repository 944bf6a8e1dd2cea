-- The zeros with the tail, the count of rows, the rows and the heads are the words of a log without an entry.
use Rattle.std.proofs.Common.{◌≡◌, ℕ, List, length, replicate, set, take, drop, ◌++◌, slice_index, sym, ap, ◌∙◌, subst}
use Rattle.std.proofs.Common.{arith, All}
use Rattle.fish_catalog.specs.Clamps.{IsClamped}
use Rattle.std.proofs.lemmas.Grind.{common_steps}
use Rattle.fish_catalog.specs.declared.row.CatRow.{CatRow}
use Rattle.fish_rule.proofs.basics.EmptyWords.{opens, start_words, tail_at}
use Rattle.fish_rule.specs.within.Start.{IsEmpty}
use Rattle.fish_rule.specs.World.{total}
use Rattle.fish_rule.proofs.opening.empty_words.Goals as goal

-- the words before the rows are stored, with the rows, and with the heads
pub returns : goal.returns
returns c =
    let key = c.args.key.now in
    let fits = c.requires.fits in
    let rows : List CatRow = c.rows-rows.result.now in
    let us : List ℕ = c.store_heads.new.words in
    let ts : List ℕ = c.store_rows.new.words in
    let ws : List ℕ = set (set (set (set c.in_ok-words.words.items 0 c.tail_of.result) 1 key.number) 2 key.version)
    3 (length rows) in
    let zeros = c.in_ok-words.ensures ∙ ap (λ (n : ℕ). replicate n 0) c.word_count.ensures in
    let given_ : c.deref_mut.result.now ≡ start_words (total key) (tail_at key) key.number key.version (length rows) =
    c.deref_mut.ensures.value
    ∙ (λ j. set (set (set (set (zeros j) 0 (c.tail_of.ensures j)) 1 key.number) 2 key.version) 3 (length rows)) in
    let wide : length ts ≡ total key = grind (arith, common_steps) in
    let whole : take c.in_ok-words.words.len (ts ++ drop (length ts) ws) ≡ ts = grind (arith, common_steps) in
    let before : c.deref_mut-2.result.now ≡ ts = c.deref_mut-2.ensures.value ∙ whole in
    let wide_after : length us ≡ total key = grind (arith, common_steps) in
    let whole_after : take c.in_ok-words.words.len
    (us ++ drop (length us) (take c.in_ok-words.words.len (ts ++ drop (length ts) ws))) ≡ us =
    grind (arith, common_steps) in
    let now = c.store_rows.ensures in
    let last = c.store_heads.ensures in
    let heads : c.as_slice.result.now ≡ key.heads.value = c.as_slice.ensures ∙ sym c.requires.heads in
    let size : length c.as_slice.result.now ≡ key.buckets = ap length heads ∙ fits.all_heads in
    subst (IsEmpty key) (sym whole_after)
    (opens key rows c.deref_mut.result.now us (c.rows-rows.ensures.value ∙ sym c.requires.rows)
    c.rows-rows.ensures.kept
    (subst (All (IsClamped key.number)) (sym c.rows-rows.ensures.value) c.requires.clamped) c.requires.version wide_after given_ ts
    (record { placed = λ id row _. now.rows id row; before = now.before; behind = now.behind })
    (λ b less. last.heads b (omega arith) ∙ ap (λ (z : List ℕ). slice_index z b) heads)
    (λ p less. last.before p less ∙ ap (λ (z : List ℕ). slice_index z p) before)
    (λ p more. last.behind p (omega arith) ∙ ap (λ (z : List ℕ). slice_index z p) before))
