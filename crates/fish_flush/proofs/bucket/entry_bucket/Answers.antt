-- The value's bytes come after the id's.
use Rattle.std.proofs.Common.{◌≡◌, ℕ, ◌+◌, List, ◌++◌, ap, sym, ◌∙◌}
use Rattle.std.specs.Prelude.{map, slice_index}
use Rattle.std.specs.Int.{to_le_bytes}
use Rattle.std.specs.Int.Width.{w16}
use Rattle.std.specs.List.{fold, range_with_len}
use Rattle.std.proofs.lemmas.List.Sums.{fold-append}
use Rattle.fish_layout.specs.Bucket.{bucket_of, byte_behind}
use Rattle.fish_layout.specs.Cleared.{entry_at}
use Rattle.fish_layout.specs.Entry.{entry_id, value_offset, value_size}
use Rattle.fish_layout.specs.Hash.{bucket_in, fnv1a, fnv_step}
use Rattle.fish_layout.specs.Header.{keys_of}
use Rattle.fish_flush.proofs.bucket.entry_bucket.Goals as goal

pub returns-clause-bucket : goal.returns-clause-bucket
unfolding bucket_of
returns-clause-bucket c =
    let e : ℕ → ℕ = slice_index c.args.words.now in
    let at : ℕ = c.args.c in
    let buckets : ℕ = c.args.buckets in
    let start : ℕ = 14695981039346656037 in
    let vals : ℕ → ℕ → ℕ → List ℕ = λ behind from size. map (λ j. byte_behind e behind (from + j)) (range_with_len 0 size) in
    let behind : c.entry_at-behind.result ≡ entry_at (keys_of (e 0)) =
    c.entry_at-behind.ensures ∙ ap entry_at (c.from.ensures ∙ c.keys_in.ensures.value ∙ ap keys_of c.word.ensures) in
    let second : c.word-2.result ≡ e (entry_at at + 1) = c.word-2.ensures ∙ ap (λ n. e (n + 1)) c.entry_at-2.ensures in
    let third : c.word-third.result ≡ e (entry_at at + 2) = c.word-third.ensures ∙ ap (λ n. e (n + 2)) c.entry_at.ensures in
    let id : c.id_in-id.result ≡ entry_id (e (entry_at at + 1)) = c.id_in-id.ensures ∙ ap entry_id second in
    let from : c.offset_in-from.result ≡ value_offset (e (entry_at at + 2)) =
    c.offset_in-from.ensures.value ∙ ap value_offset third in
    let size : c.size_in-size.result ≡ value_size (e (entry_at at + 2)) =
    c.size_in-size.ensures.value ∙ ap value_size third in
    let mixed : c.mix_value-mixed.result ≡ fnv1a (to_le_bytes w16 c.id_in-id.result
    ++ vals c.entry_at-behind.result c.offset_in-from.result c.size_in-size.result) =
    c.mix_value-mixed.ensures
    ∙ ap (λ h. fold fnv_step h (vals c.entry_at-behind.result c.offset_in-from.result c.size_in-size.result))
    c.hash_of_id-hash.ensures
    ∙ sym (fold-append fnv_step start (to_le_bytes w16 c.id_in-id.result)
    (vals c.entry_at-behind.result c.offset_in-from.result c.size_in-size.result)) in
    c.bucket_of.ensures.value ∙ ap (λ h. bucket_in h buckets) mixed
    ∙ (λ i. bucket_in (fnv1a (to_le_bytes w16 (id i) ++ vals (behind i) (from i) (size i))) buckets)
