-- The chain goes on below the table at the head with which it began, and the interval says what the records there have.
use Rattle.std.proofs.Common.{◌≡◌, ℕ, sym, ap, ◌∙◌, subst, arith}
use Rattle.fish_lang.specs.Definition.{definition_of}
use Rattle.fish_layout.specs.Hash.{bucket_in, key_hash_of}
use Rattle.fish_rule.specs.Passes.{view}
use Rattle.fish_rule.specs.declared.view.Key.{Key}
use Rattle.fish_scan.proofs.OlderIndexed.{head_below, index_covered}
use Rattle.fish_scan.proofs.OlderReads.{oks}
use Rattle.fish_scan.specs.Indices.{bucket_of_value}
use Rattle.fish_scan.specs.OlderWork.{IsOlderIndexAllowed, IsWalkAllowed}
use Rattle.fish_scan.proofs.chained.read_chain.Goals as goal

pub returns-clause-walked : goal.returns-clause-walked
returns-clause-walked g c = oks c.walk_down.result c.walk_down.ensures.walked (λ walked h.
    let key = c.args.log.now.key in
    let v = view c.args.pass.now in
    let u = view c.rest_of-place.new.pass in
    let bucket : c.bucket_of-bucket.result ≡ bucket_in (key_hash_of c.args.id c.args.query.now.value) key.buckets =
    c.bucket_of-bucket.ensures.value ∙ (λ i. bucket_in (c.key_hash.ensures i) (c.buckets.ensures.value i)) in
    let own : c.bucket_of-bucket.result ≡ bucket_of_value u c.args.id c.args.query.now.value =
    bucket ∙ ap (λ (z : Key). bucket_in (key_hash_of c.args.id c.args.query.now.value) z.buckets)
    (sym c.rest_of-place.ensures.pass.about) in
    let below = c.bucket_of-bucket.ensures.fits in
    let some = c.buckets.ensures.value in
    let d = walked key h c.bucket_of-bucket.result
    (head_below h c.bucket_of-bucket.result c.rest_of-place.result (omega arith) c.rest_of-place.ensures.rest) bucket
    (index_covered h v c.requires.pass.stands c.requires.pass.about (definition_of c.args.query.now.def) c.args.id
    c.args.stretch.now.from c.args.stretch.now.to c.requires.index) in
    let loads = c.rest_of-place.ensures.loads in
    let one = loads.2.counted in
    let two = d.few in
    record {
      rows = d.rows;
      walked = loads.0;
      walk = subst (λ (z : ℕ). IsWalkAllowed u z loads.0) own loads.1;
      most = d.most;
      allowed = subst (λ (z : ℕ). IsOlderIndexAllowed h.prior z c.walk_down.new.rows c.args.stretch.now.from c.args.stretch.now.to d.most)
          own d.allowed;
      own = loads.2.own;
      few = omega arith;
    })

pub returns-clause-whole : goal.returns-clause-whole
returns-clause-whole g c h =
    let below = c.bucket_of-bucket.ensures.fits in
    let some = c.buckets.ensures.value in
    c.walk_down.ensures.whole c.args.log.now.key h c.bucket_of-bucket.result
    (head_below h c.bucket_of-bucket.result c.rest_of-place.result (omega arith) c.rest_of-place.ensures.rest)
