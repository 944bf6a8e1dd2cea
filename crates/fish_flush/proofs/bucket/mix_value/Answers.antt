-- One byte more comes after the others.
use Rattle.std.proofs.Common.{◌≡◌, ℕ, ◌+◌, [], ◌∷◌, ◌++◌, ap, sym, ◌∙◌, arith}
use Rattle.std.specs.Prelude.{map, slice_index}
use Rattle.std.specs.List.{fold, range_with_len}
use Rattle.std.proofs.lemmas.List.FromFn.{map-range_with_len_more}
use Rattle.std.proofs.lemmas.List.Sums.{fold-append}
use Rattle.fish_layout.specs.Bucket.{byte_behind}
use Rattle.fish_layout.specs.Hash.{fnv_step}
use Rattle.fish_flush.proofs.bucket.mix_value.Goals as goal

pub loop-j-preserved : goal.loop-j-preserved
loop-j-preserved c =
    let f : ℕ → ℕ = λ j. byte_behind (slice_index c.args.words.now) c.args.behind (c.args.from + j) in
    let j : ℕ = c.loop-j.j in
    let all : map f (range_with_len 0 (j + 1)) ≡ map f (range_with_len 0 j) ++ f j ∷ [] = map-range_with_len_more f 0 j j (omega arith) in
    c.hash_step-mixed.ensures
    ∙ (λ i. fnv_step (c.loop-j.invariant i) (c.byte.ensures i))
    ∙ sym (ap (fold fnv_step c.args.hash) all ∙ fold-append fnv_step c.args.hash (map f (range_with_len 0 j)) (f j ∷ []))
