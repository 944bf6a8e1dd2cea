-- One line or row more.
use Rattle.std.proofs.Common.{◌≡◌, ◌<◌, ◌∷◌, ◌∙◌, ℕ, List, Option, [], ap, arith, refl, subst}
use Rattle.std.specs.Prelude.{IfSome, MatchOption}
use Rattle.fish_ingest.proofs.IngestionStart.{idle_law}
use Rattle.fish_lanes.proofs.Parts.{err_any}
use Rattle.fish_lanes.proofs.Keeping.{keeps_ingests}
use Rattle.fish_lanes.proofs.Storing.{full_text, gains_unclaimed, stored_later, stored_none, stored_starts, stored_text}
use Rattle.fish_lanes.proofs.Storing.{text_given, text_one, text_shut}
use Rattle.fish_lanes.specs.within.Storing.{FindsTextFull, IsPartStored, IsStoredUpTo, TakesText}
use Rattle.fish_lanes.specs.declared.ingesting.Tally.{Tally}
use Rattle.fish_lines.specs.Texts.{bytes_left, form_of_texts, payload_in_text, text_form, texts_left}
use Rattle.fish_lines.specs.declared.texts.RecordText.{RecordText}
use Rattle.fish_rule.specs.Passes.{view}
use Rattle.fish_rule.specs.declared.view.Shut.{Shut}
use Rattle.fish_value.specs.declared.field.Form.{Form}
use Rattle.fish_lanes.proofs.ingesting.ingest_texts.Goals as goal

pub loop-text-init : goal.loop-text-init
loop-text-init g c =
    let v = view c.args.pass.now in
    record {
      of = c.requires.can.of;
      start = c.requires.can.start;
      read = c.requires.can.read;
      form = refl;
      stored = stored_none v (form_of_texts c.args.texts.now) (texts_left c.args.texts.now) c.args.tally.now c.requires.can.start.outside
          (idle_law v c.requires.can.of.stands c.requires.can.start) c.requires.none;
      shut = refl;
      room =
          let a = ap (λ (z : Tally). z.stored) c.requires.none in
          let b = ap (λ (z : Tally). z.refused) c.requires.none in
          let e = c.requires.short in
          omega arith;
    }

pub ingest_text-requires-clause-text : goal.ingest_text-requires-clause-text
ingest_text-requires-clause-text g c =
    let next = subst (λ (o : Option RecordText). MatchOption o (texts_left c.loop-text.texts ≡ [])
    (λ t. texts_left c.loop-text.texts ≡ payload_in_text t ∷ texts_left c.next_text.new.self)) c.in-Some.is c.in_ok-text.ensures.texts in
    let kind = subst (λ (o : Option RecordText). IfSome o (λ t. text_form t ≡ form_of_texts c.loop-text.texts)) c.in-Some.is
    c.in_ok-text.ensures.kind in
    text_given c.loop-text.texts c.in-Some.text (texts_left c.next_text.new.self) kind next

pub returns-in_err-shut-clause-part : goal.returns-in_err-shut-clause-part
returns-in_err-shut-clause-part g c =
    let v = view c.args.pass.now in
    let u = view c.loop-text.pass in
    let t = view c.ingest_text.new.pass in
    let form = form_of_texts c.args.texts.now in
    let outs = texts_left c.args.texts.now in
    let behind = texts_left c.loop-text.texts in
    err_any c.from_residual-in_err-shut.result (IsPartStored v t form outs) (
      behind,
      c.loop-text.tally,
      stored_later v u t form outs behind c.loop-text.tally (gains_unclaimed u t c.in_err-shut.ensures.left.0)
          (keeps_ingests u t c.in_err-shut.ensures.left.0.left.on)
          c.loop-text.invariant.stored,
    )

pub returns-in-Some-2-clause-ends : goal.returns-in-Some-2-clause-ends
returns-in-Some-2-clause-ends g c =
    let v = view c.args.pass.now in
    let u = view c.loop-text.pass in
    let t = view c.ingest_text.new.pass in
    let file = c.args.texts.now in
    let x = c.in-Some.text in
    let behind = texts_left c.next_text.new.self in
    let inv = c.loop-text.invariant in
    let after = c.ingest_text.new.tally in
    let next : texts_left c.loop-text.texts ≡ payload_in_text x ∷ behind =
    subst (λ (o : Option RecordText). MatchOption o (texts_left c.loop-text.texts ≡ [])
    (λ t. texts_left c.loop-text.texts ≡ payload_in_text t ∷ behind)) c.in-Some.is c.in_ok-text.ensures.texts in
    let kind : text_form x ≡ form_of_texts c.loop-text.texts =
    subst (λ (o : Option RecordText). IfSome o
    (λ t. text_form t ≡ form_of_texts c.loop-text.texts)) c.in-Some.is c.in_ok-text.ensures.kind in
    full_text v u t (form_of_texts file) (texts_left file) behind (payload_in_text x) c.loop-text.tally after c.in-Some-2.shut
    c.ingest_text.ensures.pass.stands inv.shut
    (subst (λ (z : List (Option (List ℕ))). IsStoredUpTo v u (form_of_texts file) (texts_left file) z c.loop-text.tally) next inv.stored)
    (subst (λ (f : Form). FindsTextFull u t f (payload_in_text x) c.loop-text.tally after c.in-Some-2.shut) (kind ∙ inv.form)
    (subst (λ (o : Option Shut). MatchOption o (TakesText u t (text_form x) (payload_in_text x) c.loop-text.tally after)
    (FindsTextFull u t (text_form x) (payload_in_text x) c.loop-text.tally after)) c.in-Some-2.is c.in_ok-shut.ensures.takes))

pub loop-text-preserved : goal.loop-text-preserved
loop-text-preserved g c =
    let v = view c.args.pass.now in
    let u = view c.loop-text.pass in
    let t = view c.ingest_text.new.pass in
    let file = c.args.texts.now in
    let form = form_of_texts file in
    let x = c.in-Some.text in
    let behind = texts_left c.next_text.new.self in
    let inv = c.loop-text.invariant in
    let after = c.ingest_text.new.tally in
    let next : texts_left c.loop-text.texts ≡ payload_in_text x ∷ behind =
    subst (λ (o : Option RecordText). MatchOption o (texts_left c.loop-text.texts ≡ [])
    (λ t. texts_left c.loop-text.texts ≡ payload_in_text t ∷ behind)) c.in-Some.is c.in_ok-text.ensures.texts in
    let kind : text_form x ≡ form_of_texts c.loop-text.texts =
    subst (λ (o : Option RecordText). IfSome o
    (λ t. text_form t ≡ form_of_texts c.loop-text.texts)) c.in-Some.is c.in_ok-text.ensures.kind in
    let takes : TakesText u t form (payload_in_text x) c.loop-text.tally after =
    subst (λ (f : Form). TakesText u t f (payload_in_text x) c.loop-text.tally after) (kind ∙ inv.form)
    (subst (λ (o : Option Shut). MatchOption o (TakesText u t (text_form x) (payload_in_text x) c.loop-text.tally after)
    (FindsTextFull u t (text_form x) (payload_in_text x) c.loop-text.tally after)) c.in-None.is c.in_ok-shut.ensures.takes) in
    let stored : IsStoredUpTo v t form (texts_left file) behind after =
    stored_text v u t form (texts_left file) behind (payload_in_text x) c.loop-text.tally after
    (subst (λ (z : List (Option (List ℕ))). IsStoredUpTo v u form (texts_left file) z c.loop-text.tally) next inv.stored) takes in
    record {
      of = c.ingest_text.ensures.pass;
      start = stored_starts v t form (texts_left file) behind after c.requires.can.start stored;
      read = c.ingest_text.ensures.defs;
      form = c.next_text.ensures.form ∙ inv.form;
      stored = stored;
      shut = text_shut u t form (payload_in_text x) c.loop-text.tally after takes ∙ inv.shut;
      room =
          let a = text_one u t form (payload_in_text x) c.loop-text.tally after takes in
          let b = subst (λ (o : Option RecordText). IfSome o (λ _. bytes_left c.next_text.new.self < bytes_left c.loop-text.texts))
          c.in-Some.is c.in_ok-text.ensures.shorter in
          let d = inv.room in
          omega arith;
    }
