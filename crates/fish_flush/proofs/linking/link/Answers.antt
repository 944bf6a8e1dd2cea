-- Each key entry is linked in turn.
use Rattle.std.proofs.Common.{◌≡◌, ℕ, ◌<◌, List, length, get_or, refl, ap, ◌∙◌, arith}
use Rattle.std.proofs.lemmas.Grind.{get_or_default_zero}
use Rattle.std.proofs.lemmas.List.{length-set}
use Rattle.fish_layout.specs.Bucket.{bucket_of}
use Rattle.fish_flush.proofs.LinkedWords.{all_linked, none_linked, one_linked}
use Rattle.fish_flush.proofs.linking.link.Goals as goal

pub loop-c-init : goal.loop-c-init
loop-c-init c = record {
  heads = refl;
  out = none_linked c.args.line c.args.words.now c.args.heads.now.items;
}

pub entry_bucket-bucket-requires-clause-some : goal.entry_bucket-bucket-requires-clause-some
entry_bucket-bucket-requires-clause-some c =
    let ok = c.loop-c.heads.ok in
    let is_len = c.len.ensures in
    let same = c.loop-c.invariant.heads in
    let some_ = c.requires.some in
    omega arith

pub entry_bucket-bucket-requires-clause-few : goal.entry_bucket-bucket-requires-clause-few
entry_bucket-bucket-requires-clause-few c =
    let fits = c.keys_in.ensures.fits in
    let same = c.from-keys.ensures in
    let test = c.loop-c-test.true in
    omega arith

pub index-requires : goal.index-requires
index-requires c =
    let is_len = c.len.ensures in
    let fits = c.entry_bucket-bucket.ensures.fits in
    omega arith

pub index_mut-requires : goal.index_mut-requires
index_mut-requires c =
    let is_len = c.len.ensures in
    let fits = c.entry_bucket-bucket.ensures.fits in
    omega arith

pub loop-c-preserved : goal.loop-c-preserved
loop-c-preserved c =
    let heads : List ℕ = c.args.heads.now.items in
    let now : List ℕ = c.loop-c.heads.items in
    let out : List ℕ = c.loop-c.words in
    let b : ℕ = c.entry_bucket-bucket.result in
    let p : ℕ = c.place_of.result in
    let place = c.place_of.ensures in
    let at = c.entry_at.ensures in
    let same : length now ≡ length heads = c.loop-c.invariant.heads in
    let ok = c.loop-c.heads.ok in
    let is_len = c.len.ensures in
    let len : c.len.result ≡ length heads = omega arith in
    let fits_ = c.entry_bucket-bucket.ensures.fits in
    let fits : b < length heads = omega arith in
    let bucket : b ≡ bucket_of (length heads) (λ i. get_or out i 0) c.loop-c.c =
    c.entry_bucket-bucket.ensures.bucket ∙ ap (λ (n : ℕ). bucket_of n (λ i. get_or out i 0) c.loop-c.c) len in
    let keys = c.from-keys.ensures ∙ c.keys_in.ensures.value in
    let test = c.loop-c-test.true in
    let room = c.requires.room in
    let prev : c.index.result.now ≡ get_or now b 0 = c.index.ensures ∙ get_or_default_zero now b c.index.result.now (omega arith) in
    record {
      heads = length-set now b p ∙ same;
      out = one_linked c.args.line c.args.words.now heads c.loop-c.c now out c.loop-c.invariant.out
          b c.index.result.now c.entry_at.result p same (omega arith) bucket fits prev at (omega arith) room;
    }

pub returns-clause-heads : goal.returns-clause-heads
returns-clause-heads c = c.loop-c.invariant.heads

pub returns-clause-spelled : goal.returns-clause-spelled
returns-clause-spelled c =
    let keys = c.from-keys.ensures ∙ c.keys_in.ensures.value in
    let test = c.loop-c-test.false in
    let upto = c.loop-c.auto.c-end in
    all_linked c.args.line c.args.words.now c.args.heads.now.items c.loop-c.c c.loop-c.heads.items c.loop-c.words
    c.loop-c.invariant.out (omega arith) (omega arith)

pub returns-clause-size : goal.returns-clause-size
returns-clause-size c = c.loop-c.invariant.out.size
