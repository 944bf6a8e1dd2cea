-- The record gets the number of its claim, and each of its entries is linked into the bucket of its key.
use Rattle.std.proofs.Common.{◌≡◌, ℕ, ◌<◌, ◌^◌, List, length, refl, sym, ap, ◌∙◌, subst, arith, add-one, get_or}
use Rattle.std.proofs.Common.{Option, Some}
use Rattle.std.proofs.lemmas.Option.{slice_get_read}
use Rattle.std.specs.List.{slice_get}
use Rattle.fish_claim.proofs.Fills.{in_region}
use Rattle.fish_claim.specs.Fills.{CanFill}
use Rattle.fish_ingest.proofs.PlacementBody.{numbered}
use Rattle.fish_ingest.proofs.PlacementWords.{IsWriting, can_fill, parts_at, writing_done, writing_links, writing_more}
use Rattle.fish_ingest.proofs.PlacementWords.{writing_stored}
use Rattle.fish_ingest.specs.Placement.{HasWrittenRegion}
use Rattle.fish_layout.proofs.Sizes.{few_keys_of}
use Rattle.fish_layout.specs.Body.{IsBody}
use Rattle.fish_layout.specs.Hash.{bucket_in, key_hash_of}
use Rattle.fish_layout.specs.declared.parts.KeyPart.{KeyPart}
use Rattle.fish_rule.proofs.laws.Regions.{one_flight}
use Rattle.fish_rule.proofs.laws.Steps.{flight_law}
use Rattle.fish_rule.specs.Flying.{region_in}
use Rattle.fish_rule.specs.Passes.{view}
use Rattle.fish_rule.specs.Table.{IsOfMoment}
use Rattle.fish_rule.specs.declared.table.Region.{Region}
use Rattle.fish_rule.specs.declared.view.Flight.{Flight}
use Rattle.fish_rule.specs.declared.view.Key.{Key}
use Rattle.fish_rule.specs.declared.view.View.{View}
use Rattle.fish_ingest.proofs.placement.write_record.Goals as goal

-- the number of the region that the pass keeps is that of its record
number_is : (v : View) (f : Flight) (r : Region) (o : Option Region) → v.flight ≡ Some f → o ≡ Some r
    → o ≡ region_in v.flight → f.number ≡ r.number
number_is v f r o flying is kept =
    ap (λ (z : Region). z.number) (in_region v.flight f r flying (sym is ∙ kept))

-- it has 28 bits
few_number : (v : View) (f : Flight) (r : Region) (o : Option Region) → IsOfMoment v → v.flight ≡ Some f → o ≡ Some r
    → o ≡ region_in v.flight → r.number < 2 ^ 28
few_number v f r o stands flying is kept =
    let few = (flight_law v.about v f refl stands flying).number in
    let number = number_is v f r o flying is kept in
    omega arith

pub set_number-requires-clause-number : goal.set_number-requires-clause-number
set_number-requires-clause-number c =
    let few = few_number (view c.args.pass.now) c.requires.can.0 c.in-Some.region c.in_flight.result
    c.requires.pass.stands c.requires.can.1.flying c.in-Some.is c.in_flight.ensures in
    omega arith

pub overflow_cast-region : goal.overflow_cast-region
overflow_cast-region c =
    let few = few_number (view c.args.pass.now) c.requires.can.0 c.in-Some.region c.in_flight.result
    c.requires.pass.stands c.requires.can.1.flying c.in-Some.is c.in_flight.ensures in
    omega arith

pub fill-requires-clause-view : goal.fill-requires-clause-view
fill-requires-clause-view c =
    let f : Flight = c.requires.can.0 in
    let can = c.requires.can.1 in
    let v = view c.args.pass.now in
    let number = number_is v f c.in-Some.region c.in_flight.result can.flying c.in-Some.is c.in_flight.ensures in
    let b = can.fits.made.0 in
    let body = subst (λ (z : ℕ). IsBody (numbered z b.0) c.set_number.new.body) (sym number)
    (c.set_number.ensures b.0 b.2) in
    (f, subst (CanFill v f) (sym c.as_slice.ensures) (can_fill v f c.args.prepared can c.set_number.new.body body))

pub overflow_cast-position : goal.overflow_cast-position
overflow_cast-position c =
    let can = c.requires.can.1 in
    let s = c.loop-position.invariant.writing c.requires.can.0 can in
    let few = few_keys_of s.made.proper in
    let keys = ap length (c.as_slice-key-items.ensures ∙ can.fits.made.1) in
    let less = c.loop-position-test.true in
    let end = c.loop-position.auto.position-end in
    omega arith

-- the key is the next one of the record
key_found : (items keys : List KeyPart) (at : ℕ) (k : KeyPart) → items ≡ keys → at < length items
    → k ≡ get_or items at k → slice_get keys at ≡ Some k
key_found items keys at k same less is =
    subst (λ (z : List KeyPart). slice_get z at ≡ Some k) same
    (slice_get_read items (length items) at k refl less is)

pub link-requires-clause-view : goal.link-requires-clause-view
link-requires-clause-view c =
    let f : Flight = c.requires.can.0 in
    let can = c.requires.can.1 in
    let s = c.loop-position.invariant.writing f can in
    let p = parts_at (view c.args.pass.now) f c.args.prepared can in
    let k : KeyPart = c.key-item.result in
    let u = view c.loop-position.pass in
    let keys : c.as_slice-key-items.result.now ≡ p.keys = c.as_slice-key-items.ensures ∙ can.fits.made.1 in
    let size = ap length keys in
    let inside : c.loop-position.position < length c.as_slice-key-items.result.now =
    (let t = c.loop-position-test.true in let e = c.loop-position.auto.position-end in omega arith) in
    let buckets : u.about.buckets ≡ c.buckets.result =
    ap (λ (z : Key). z.buckets) c.loop-position.invariant.of.about ∙ sym c.buckets.ensures.value in
    let hashed : bucket_in (key_hash_of k.id k.value) u.about.buckets ≡ c.bucket_of-bucket.result =
    (λ i. bucket_in (sym c.key_hash.ensures i) (buckets i)) ∙ sym c.bucket_of-bucket.ensures.value in
    let fits = c.bucket_of-bucket.ensures.fits in (
      s.flight,
      writing_links (view c.args.pass.now) f p c.loop-position.position u s k c.bucket_of-bucket.result
          (key_found _ p.keys c.loop-position.position k keys inside c.key-item.is) (omega arith) hashed (omega arith),
    )

pub loop-position-preserved : goal.loop-position-preserved
loop-position-preserved c = record {
  of = c.link.ensures.pass;
  writing = λ f can.
      let v = view c.args.pass.now in
      let s = c.loop-position.invariant.writing f can in
      let p = parts_at v f c.args.prepared can in
      let size = ap length (c.as_slice-key-items.ensures ∙ can.fits.made.1) in
      let less : c.loop-position.position < length p.keys =
      (let t = c.loop-position-test.true in let e = c.loop-position.auto.position-end in omega arith) in
      subst (λ (z : ℕ). IsWriting v f p z (view c.link.new.pass)) (sym (add-one c.loop-position.position))
      (writing_more v f p c.loop-position.position (view c.loop-position.pass) s (view c.link.new.pass)
      c.bucket_of-bucket.result less (c.link.ensures.linked s.flight s.filled.flying));
}

pub returns-clause-written : goal.returns-clause-written
returns-clause-written c f flying =
    let v = view c.args.pass.now in
    let g : Flight = c.requires.can.0 in
    let same : g ≡ f = one_flight g f (sym c.requires.can.1.flying ∙ flying) in
    let can = c.requires.can.1 in
    let s = c.loop-position.invariant.writing g can in
    let p = parts_at v g c.args.prepared can in
    let size = ap length (c.as_slice-key-items.ensures ∙ can.fits.made.1) in
    let all : c.loop-position.position ≡ length p.keys =
    (let t = c.loop-position-test.false in let e = c.loop-position.auto.position-end in omega arith) in
    subst (λ (z : Flight). HasWrittenRegion v z (view c.loop-position.pass)) same
    (writing_done v g p c.loop-position.position (view c.loop-position.pass) s all)

-- its words are those of the record that was prepared
pub returns-clause-stored : goal.returns-clause-stored
returns-clause-stored c f can =
    let v = view c.args.pass.now in
    let p = parts_at v f c.args.prepared can in
    writing_stored v f p c.loop-position.position (view c.loop-position.pass) (c.loop-position.invariant.writing f can)
