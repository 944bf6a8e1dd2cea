-- Each key entry is linked in turn.
use Rattle.std.proofs.Common.{◌≡◌, ◌<◌, ℕ, List, length, get_or, arith, refl, sym, ◌∙◌}
use Rattle.std.proofs.lemmas.Grind.{get_or_default_zero}
use Rattle.std.proofs.lemmas.List.{length-set}
use Rattle.fish_layout.specs.Hash.{bucket_in}
use Rattle.fish_image.specs.Reached.{bucket_of_key}
use Rattle.fish_layout.specs.Pages.{place_of}
use Rattle.fish_image.proofs.Regions.{link_all, link_first, link_next, link_stops}
use Rattle.fish_image.proofs.region.link.Goals as goal

pub loop-c-init : goal.loop-c-init
loop-c-init c = record { size = refl; linked = λ places h. (places, link_first _ _ _ places _ h) }

pub loop-c-preserved : goal.loop-c-preserved
loop-c-preserved c =
    let size = c.loop-c.invariant.size in
    let n : ℕ = length c.args.heads.now.items in
    let now : List ℕ = c.loop-c.heads.items in
    let key = c.index-keys-c.result in
    let b : ℕ = c.bucket_of-bucket.result in
    let p : ℕ = c.place_of.result in
    let ok = c.loop-c.heads.ok in let is_len = c.len.ensures in
    let len : c.len.result ≡ n = omega arith in
    let bucket : b ≡ bucket_of_key n key = c.bucket_of-bucket.ensures.value ∙ (λ i. bucket_in (c.key_hash-hash.ensures i) (len i)) in
    let within = c.bucket_of-bucket.ensures.fits in
    let fits : b < n = omega arith in
    let inside : b < length now = omega arith in
    let place : p ≡ place_of c.args.line c.loop-c.c = c.place_of.ensures in
    let prev : get_or now b 0 ≡ key.prev =
    sym (get_or_default_zero now b c.index.result.now inside) ∙ sym c.index.ensures ∙ c.if-index-key.false in
    record {
      size = length-set now b p ∙ size;
      linked = λ places h.
          let t = c.loop-c.invariant.linked places h in
          (_, link_next key t.1 c.loop-c-test.true c.index-keys-c.is b bucket fits p place prev);
    }

pub returns-then-index-key : goal.returns-then-index-key
returns-then-index-key c = λ places h all.
    let t = c.loop-c.invariant.linked places h in
    let size = c.loop-c.invariant.size in
    let n : ℕ = length c.args.heads.now.items in
    let now : List ℕ = c.loop-c.heads.items in
    let key = c.index-keys-c.result in
    let b : ℕ = c.bucket_of-bucket.result in
    let ok = c.loop-c.heads.ok in let is_len = c.len.ensures in
    let len : c.len.result ≡ n = omega arith in
    let bucket : b ≡ bucket_of_key n key = c.bucket_of-bucket.ensures.value ∙ (λ i. bucket_in (c.key_hash-hash.ensures i) (len i)) in
    let within = c.bucket_of-bucket.ensures.fits in
    let fits : b < n = omega arith in
    let inside : b < length now = omega arith in
    link_stops key t.1 c.loop-c-test.true c.index-keys-c.is b bucket fits
    (λ prev. c.if-index-key.true (c.index.ensures ∙ get_or_default_zero now b c.index.result.now inside ∙ prev)) all

pub returns : goal.returns
returns c = λ places h. link_all (c.loop-c.invariant.linked places h).1 (omega arith)
