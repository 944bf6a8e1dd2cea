-- The fields that were read are the payload's.
use Rattle.std.proofs.Common.{◌≡◌, List, ◌∙◌, ap, sym, subst, true}
use Rattle.std.proofs.lemmas.Result.{IfOk-weaker}
use Rattle.fish_layout.specs.declared.parts.KeyPart.{KeyPart}
use Rattle.fish_psf.specs.Eval.{Fields}
use Rattle.fish_psf.specs.Records.{fields_of_payload, is_record}
use Rattle.fish_read.specs.Rows.{fields_in_row}
use Rattle.fish_image.specs.within.Terms.{HasKeysFor}
use Rattle.fish_image.proofs.region.is_kept_counted.Goals as goal

pub returns-in-Ok : goal.returns-in-Ok
returns-in-Ok g c =
    let p = c.args.parts.now in
    let bytes = c.as_bytes.ensures.value in
    let fields : fields_in_row c.in-Ok.found ≡ fields_of_payload p.form p.payload =
    c.in-Ok.ensures.parsed.fields ∙ ap (fields_of_payload p.form) bytes in
    let reads : is_record p.form p.payload ≡ true = sym (ap (is_record p.form) bytes) ∙ c.in-Ok.ensures.parsed.accepted in
    let keys = c.as_slice.ensures in
    let rows = c.args.rows.now in
    IfOk-weaker c.has_keys-kept.result _ _ (λ yes h. (
      (λ holds. record {
        reads = reads;
        keys = subst (λ (f : Fields). HasKeysFor rows c.args.number f p.keys) fields
            (subst (λ (ks : List KeyPart). HasKeysFor rows c.args.number (fields_in_row c.in-Ok.found) ks) keys (h.0 holds));
      }),
      λ kept. h.1 (subst (λ (ks : List KeyPart). HasKeysFor rows c.args.number (fields_in_row c.in-Ok.found) ks) (sym keys)
          (subst (λ (f : Fields). HasKeysFor rows c.args.number f p.keys) (sym fields) kept.keys)),
    )) c.has_keys-kept.ensures
