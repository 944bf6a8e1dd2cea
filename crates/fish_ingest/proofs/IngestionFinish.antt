-- The publication of a pending record, and what the words that were stored for it tell of the log.
use Rattle.std.proofs.Common.{List, [], ap, inl, inr, refl, subst, sym, true, ℕ, ⊎_elim, ◌++◌, ◌∙◌, ◌∷◌, ◌≡◌}
use Rattle.fish_catalog.specs.declared.entry.Entry.TheVariants as entry
use Rattle.fish_claim.proofs.Answered.{publish_learns}
use Rattle.fish_ingest.proofs.IngestionStart.{on_retire}
use Rattle.fish_ingest.proofs.Passing.{on_lane}
use Rattle.fish_ingest.specs.Passing.{moved}
use Rattle.fish_ingest.specs.Ingestion.{HasIngested, HasStarted}
use Rattle.fish_ingest.specs.Placement.{pending_number}
use Rattle.fish_ingest.specs.declared.placement.Pending.{Pending}
use Rattle.fish_layout.proofs.Spelled.{spelled_body}
use Rattle.fish_layout.specs.Body.{IsBody}
use Rattle.fish_layout.specs.Cleared.{Spells, body_of, unlinked}
use Rattle.fish_layout.specs.declared.parts.BodyParts.{BodyParts}
use Rattle.fish_psf.specs.Records.{is_record}
use Rattle.fish_rule.proofs.laws.Clocks.{later_both, later_ticked}
use Rattle.fish_rule.proofs.laws.Lists.{all_among}
use Rattle.fish_rule.proofs.laws.Learning.{learns_both}
use Rattle.fish_rule.proofs.laws.Regions.{one_flight}
use Rattle.fish_rule.proofs.laws.Regions.{published}
use Rattle.fish_rule.specs.RegistrySteps.{after_retire}
use Rattle.fish_rule.specs.Facts.{IsRecorded}
use Rattle.fish_rule.specs.Logs.{KnowsAs}
use Rattle.fish_rule.specs.SpaceSteps.{after_publish_region, flight_kind, own_after, records_after, shut_after}
use Rattle.fish_rule.specs.Views.{Among}
use Rattle.fish_rule.specs.World.{body}
use Rattle.fish_rule.specs.declared.view.Flight.{Flight}
use Rattle.fish_rule.specs.declared.view.Found.{Found}
use Rattle.fish_rule.specs.declared.view.Kind.TheVariants.{Stored, Void}
use Rattle.fish_rule.specs.declared.view.Kind.{Kind}
use Rattle.fish_rule.specs.declared.view.View.{View}
use Rattle.fish_value.specs.declared.field.Form.{Form}

-- an entry with the lane, the form and the payload of the words stands at the number, now and later
pub knows_recorded : (v : View) (n : ℕ) (stored words : List ℕ) (p : BodyParts)
    → Among (record { number = n; words = stored }) v.learned.records → IsBody p words
    → body_of stored ≡ body_of words → p.number ≡ n → KnowsAs v n (entry.Stored p.lane p.form p.payload)
knows_recorded v n stored words p among made same number u learns w r j at =
    let is = all_among (IsRecorded u.about w.count w.dir w.log r.start) (record { number = n; words = stored })
    u.learned.records (r.facts j u at).records (learns.records _ among) in
    let finished = r.space.finished n is.above is.below (published (w.dir n) Stored is.stored) in (
      unlinked p,
      record {
        stored = is.stored;
        spells = subst (λ (e : ℕ → ℕ). Spells (unlinked p) e)
            (sym (ap (body w.log) finished.line ∙ is.words ∙ same)) (spelled_body words made);
        number_is = number;
        lane_is = refl;
        form_is = refl;
        payload_is = refl;
      },
    )

-- the record that was pending is published, and the pass is out
pub has_ingested : (v u w : View) (form : Form) (payload : List ℕ) (pending : Pending) (s : HasStarted v form payload pending u)
    → w ≡ after_retire (after_publish_region u s.waits.flight) → HasIngested v form payload (pending_number pending) w
has_ingested v u w form payload pending s is = subst (HasIngested v form payload (pending_number pending)) (sym is) (
    let f : Flight = s.waits.flight in
    let p : View = after_publish_region u f in
    let kind : flight_kind u f ≡ Stored = s.waits.stored in
    let number : f.number ≡ pending_number pending = s.waits.number_is in
    let flights : s.words.flight ≡ f = one_flight s.words.flight f (sym s.words.flying ∙ s.waits.ready.flying) in
    let newest : Among (record { number = pending_number pending; words = s.words.flight.words }) (after_retire p).learned.records =
    subst (λ (z : Kind). Among (record { number = pending_number pending; words = s.words.flight.words })
    (records_after z f u.learned.records)) (sym kind)
    (inl (λ j. record { number = number j; words = (sym flights j).words })) in
    let lane : s.parts.lane ≡ v.lane = s.are.parts.lane_is ∙ s.are.lane_is ∙ on_lane s.on in
    let form_ : s.parts.form ≡ form = s.are.parts.form_is ∙ s.are.form_is in
    record {
      accepted = subst (λ (z : Form). is_record z payload ≡ true) s.are.form_is s.are.parts.reads;
      unshut = s.unshut;
      on = record {
        learns = learns_both v u (after_retire p) s.on.learns
            (learns_both u p (after_retire p) (publish_learns u f) (on_retire p).learns);
        clock = later_both v.clock u.clock (after_retire p).clock s.on.clock
            (later_both u.clock p.clock (after_retire p).clock (later_ticked u.clock) (later_ticked p.clock));
        frame = ap (λ (z : View). moved z (after_retire p)) s.on.frame;
      };
      outside = refl;
      idle = refl;
      shut = ap (λ (z : Kind). shut_after z f u.about.end u.shut) kind ∙ s.shut;
      own = ap (λ (z : Kind). own_after z u.lane f.number u.own) kind
          ∙ (λ j. s.own j ++ record { lane = on_lane s.on j; number = number j } ∷ []);
      entry = subst (λ (z : ℕ × Form × List ℕ). KnowsAs (after_retire p) (pending_number pending) (entry.Stored z.0 z.1 z.2))
          (λ j. (lane j, form_ j, s.are.parts.payload_is j))
          (knows_recorded (after_retire p) (pending_number pending) s.words.flight.words s.words.words
          (record s.parts { number = pending_number pending }) newest s.words.made s.words.same refl);
      fresh = s.fresh;
      counted = s.counted;
      found = λ x m. ⊎_elim
          (λ (h : record { number = f.number; kind = flight_kind u f; line = f.line; lines = f.lines } ≡ x).
          inr (inr (ap (λ (z : Found). z.number) (sym h) ∙ number)))
          (λ (h : Among x u.learned.found). ⊎_elim (λ (o : Among x v.learned.found). inl o)
          (λ (k : x.kind ≡ Void). inr (inl k)) (s.voids x h)) m;
    })
