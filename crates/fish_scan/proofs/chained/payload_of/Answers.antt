-- A key entry's record is stored, and its words are on its page.
use Rattle.std.proofs.Common.{◌≡◌, ℕ, List, sym, ◌∙◌}
use Rattle.fish_catalog.specs.declared.entry.Entry.TheVariants.{Stored, Void}
use Rattle.fish_scan.proofs.OlderReads.{row_read}
use Rattle.fish_value.specs.declared.field.Form.{Form}
use Rattle.fish_scan.proofs.chained.payload_of.Goals as goal

pub returns-in-Ok-Stored-clause-payload : goal.returns-in-Ok-Stored-clause-payload
returns-in-Ok-Stored-clause-payload g c k h b n p key at =
    row_read h b c.args.node.now.place n p c.args.node.now.key key at c.args.node.now.number _ _ c.in-Ok-Stored.payload
    c.in-Ok-Stored.field-0 c.args.loads.now c.cold_row.new.loads c.in-Ok-Stored.field-0-is
    (c.in-Ok-Stored.ensures.carried k h b n p key at) c.in-Ok-Stored.ensures.entry

-- no void has a key entry
no_void : (lane : ℕ) (form : Form) (payload : List ℕ) → Void ≡ Stored lane form payload → ⊥
no_void lane form payload is = cc

pub returns-in-Ok-Void-clause-whole : goal.returns-in-Ok-Void-clause-whole
returns-in-Ok-Void-clause-whole g c k h b n p key at =
    no_void p.lane p.form p.payload (sym c.in-Ok-Void.field-0-is ∙ c.in-Ok-Void.ensures.carried k h b n p key at)
