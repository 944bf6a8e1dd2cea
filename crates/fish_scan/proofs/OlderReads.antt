-- What is read of a number below the base, and of more of them.
use Rattle.std.proofs.Common.{◌≡◌, ℕ, ◌+◌, ◌*◌, ◌%◌, drop, ◌<◌, ◌≤◌, List, sym, ap, ◌∙◌, subst, arith}
use Rattle.std.specs.Prelude.{Option, Some, IfErr, IfSome, IsErrOf, OnOk, Result, Ok, Err, slice_get}
use Rattle.std.specs.Result.{IsErrAnd}
use Rattle.fish_catalog.specs.declared.entry.Entry.{Entry}
use Rattle.fish_catalog.specs.declared.entry.Entry.TheVariants.{Stored, Void}
use Rattle.fish_cold.proofs.Carried.{carried, carried_key, record_there}
use Rattle.fish_cold.specs.Answers.{AnswersEntry, IsDamageOf, LoadsWords, Walks}
use Rattle.fish_cold.specs.Cached.{HasNodeOn, HasRegion, IsReadFrom, words_on}
use Rattle.fish_cold.specs.Chains.{IsKeyAt}
use Rattle.fish_cold.specs.within.Caching.{IsColdUndamaged}
use Rattle.fish_cold.specs.Carries.{CarriesTable, IsEntryAnswer, IsEntryRead}
use Rattle.fish_cold.specs.declared.cold.Cold.{Cold}
use Rattle.fish_cold.specs.declared.refusal.ColdRefusal.{ColdRefusal}
use Rattle.fish_cold.specs.declared.refusal.ColdRefusal.TheVariants.{Damaged, DiskFault, OutOfMemory}
use Rattle.fish_lang.specs.Definition.{Definition}
use Rattle.fish_layout.proofs.Outlines.{body_length}
use Rattle.fish_layout.specs.Body.{body_lines}
use Rattle.fish_layout.specs.declared.parts.BodyParts.{BodyParts}
use Rattle.fish_layout.specs.declared.parts.KeyPart.{KeyPart}
use Rattle.fish_rule.specs.declared.view.Key.{Key}
use Rattle.fish_scan.proofs.Carrying.{of_told}
use Rattle.fish_scan.proofs.OlderLoads.{older_full_both, older_full_none, older_full_one, older_full_other}
use Rattle.fish_scan.proofs.OlderRows.{adds_older_both, adds_older_none, stored_more, stored_none, stored_one}
use Rattle.fish_scan.proofs.PriorRecords.{prior_number, prior_parsable, stored_prior}
use Rattle.fish_scan.specs.within.Colder.{IsDamageIn}
use Rattle.fish_scan.specs.within.Older.{AddsOlder}
use Rattle.fish_scan.specs.within.OlderReading.{HasReadOlder, IsPayloadAt}
use Rattle.fish_scan.specs.OlderWork.{IsOlderFullAllowed}
use Rattle.fish_scan.specs.Reading.{parses_of}
use Rattle.fish_scan.specs.within.Reading.{IsParsable}
use Rattle.fish_value.specs.declared.field.Form.{Form}
use Rattle.fish_value.specs.declared.row.Row.{Row}
use Rattle.fish_value.specs.declared.value.Value.{Value}

-- ---- refusals

-- an answer of an entry isn't damage
pub answer_undamaged : (entry : Entry) (e : ColdRefusal) → IsEntryAnswer entry (Err e) → IsColdUndamaged e
answer_undamaged entry (Damaged n) h = h
answer_undamaged entry DiskFault h = tt
answer_undamaged entry OutOfMemory h = tt

-- an answer of a key entry isn't
pub walk_undamaged : (place from : ℕ) (p : BodyParts) (j : ℕ) (key : KeyPart) (e : ColdRefusal) → Walks place from p j key (Err e)
    → IsColdUndamaged e
walk_undamaged place from p j key (Damaged n) h = h
walk_undamaged place from p j key DiskFault h = tt
walk_undamaged place from p j key OutOfMemory h = tt

-- damage of a number is in its range
pub damage_of : (from to n : ℕ) (e : ColdRefusal) → from ≤ n → n ≤ to → IsDamageOf n e → IsDamageIn from to e
damage_of from to n (Damaged m) least most h = (omega arith, omega arith)
damage_of from to n DiskFault least most h = omega arith
damage_of from to n OutOfMemory least most h = tt

-- damage in a range is in a larger one
pub damage_wider : (a b c d : ℕ) (e : ColdRefusal) → c ≤ a → b ≤ d → IsDamageIn a b e → IsDamageIn c d e
damage_wider a b c d (Damaged m) least most h = (let x = h.0 in let y = h.1 in (omega arith, omega arith))
damage_wider a b c d DiskFault least most h = omega arith
damage_wider a b c d OutOfMemory least most h = tt

-- what an error is that came of another
pub err_as : {T E : Type 0} (r : Result T E) (P : E → Type 0) (x : E) → IsErrAnd r (λ e. e ≡ x) → P x → IfErr r P
err_as (Ok y) P x is p = tt
err_as (Err e) P x is p = subst P (sym is) p

pub err_same : {T E : Type 0} (r : Result T E) (x y : E) → IsErrAnd r (λ e. e ≡ x) → IsErrOf r y → IsErrOf {T = T} (Err x) y
err_same (Ok z) x y is of = absurd is
err_same {T = T} (Err e) x y is of = subst (λ z. IsErrOf {T = T} (Err z) y) is of

-- what an answer gives
pub oks : {T E P Q : Type 0} (r : Result T E) → OnOk r P → (P → Q) → OnOk r Q
oks (Ok x) h f = f h
oks (Err e) h f = tt

-- ---- one number

module _ {content : Option (List ℕ)} {k : Key} {cold : Cold} (h : CarriesTable content k cold) where
  -- what was loaded of an entry
  pub one_loaded : (n : ℕ) → n < k.number → (found : Entry) → slice_get h.end.entries n ≡ Some found → (loaded loads : ℕ)
      → IfSome content (λ c. (rest : List ℕ) → IsReadFrom c cold → HasRegion cold c n rest
      → AnswersEntry n rest (Ok found) × LoadsWords rest loaded loads (Ok found))
      → (most : ℕ) × IsOlderFullAllowed h.prior n (n + 1) most × (loads ≤ loaded + most)
  one_loaded n less Void there loaded loads says =
      let at = carried content k cold h n less in
      let words = (of_told content _ h.image h.is says at.rest h.read at.region_is).1 in
      (0, older_full_other h.prior n, omega arith)
  one_loaded n less (Stored lane form payload) there loaded loads says =
      let r = stored_prior h.prior n lane form payload less there in
      let at = record_there content k cold h n r.parts r.stored in
      let words = (of_told content _ h.image h.is says at.rest h.read at.region_is).1 in
      let most = words.1 in
      let size = body_length at.head in
      (body_lines r.parts * 4, older_full_one h.prior n r.parts (prior_number h.prior n r.parts r.stored) r.stored, omega arith)

  -- the record of a key entry: its payload, and what was loaded of it
  pub row_read : (b place n : ℕ) (p : BodyParts) (j : ℕ) (key : KeyPart) → IsKeyAt h.prior b place n p j key
      → (number lane : ℕ) (form : Form) (payload : List ℕ) (found : Entry) (loaded loads : ℕ) → found ≡ Stored lane form payload
      → IsEntryAnswer (Stored p.lane p.form p.payload) (Ok found)
      → IfSome content (λ c. (line : ℕ) (p : BodyParts) (k : KeyPart) → IsReadFrom c cold → HasNodeOn cold c place line p j k
      → AnswersEntry number (drop (4 * line) (words_on cold c place)) (Ok found)
      × LoadsWords (drop (4 * line) (words_on cold c place)) loaded loads (Ok found))
      → IsPayloadAt p payload loaded loads
  row_read b place n p j key at number lane form payload found loaded loads same is says =
      let on = carried_key content k cold h b place n p j key at in
      let words = (of_told content _ h.image h.is says (at.stored.at.line % 32768) p key h.read on).1 in
      let most = (subst (λ (z : Entry). LoadsWords (drop (4 * (at.stored.at.line % 32768)) (words_on cold h.image place)) loaded loads
      (Ok z)) same words).1 in
      let size = body_length on.body in
      record { is = cc; few = omega arith }

  -- so it was read
  pub one_read : (def : Definition) (value : Value) (n : ℕ) → n < k.number → (found : Entry)
      → IsEntryRead h n (Ok found) → (before after : List Row) (parsed parses loaded loads : ℕ)
      → (slice_get h.end.entries n ≡ Some found → AddsOlder h.end.entries def value n (n + 1) before after)
      → parses ≡ parsed + parses_of found
      → IfSome content (λ c. (rest : List ℕ) → IsReadFrom c cold → HasRegion cold c n rest
      → AnswersEntry n rest (Ok found) × LoadsWords rest loaded loads (Ok found))
      → HasReadOlder h.prior def value n (n + 1) before after parsed parses loaded loads
  one_read def value n less found read before after parsed parses loaded loads adds counted says =
      let there : slice_get h.end.entries n ≡ Some found = read.there ∙ ap Some (sym read.is) in
      let load = one_loaded n less found there loaded loads says in
      let one = stored_one h.end.entries n found there in
      record {
        rows = adds there;
        parses_are = omega arith;
        most = load.0;
        allowed = load.1;
        few = load.2;
      }

  -- an entry that was read is parsable
  pub read_parsable : (n : ℕ) → n < k.number → (found : Entry) → IsEntryRead h n (Ok found) → IsParsable found
  read_parsable n less found read =
      prior_parsable h.prior n found less (read.there ∙ ap Some (sym read.is))

  -- ---- more of them

  pub read_older_none : (def : Definition) (value : Value) (n : ℕ) (rows : List Row) (parsed loaded : ℕ)
      → HasReadOlder h.prior def value n n rows rows parsed parsed loaded loaded
  read_older_none def value n rows parsed loaded =
      let none = stored_none h.end.entries n in
      record {
        rows = adds_older_none h.end.entries def value n rows;
        parses_are = omega arith;
        most = 0;
        allowed = older_full_none h.prior n;
        few = omega arith;
      }

  pub read_older_more : (def : Definition) (value : Value) (n to : ℕ) (before rows after : List Row)
      (parsed late parses loaded mid loads : ℕ) → n < to
      → HasReadOlder h.prior def value (n + 1) to before rows parsed late loaded mid
      → HasReadOlder h.prior def value n (n + 1) rows after late parses mid loads
      → HasReadOlder h.prior def value n to before after parsed parses loaded loads
  read_older_more def value n to before rows after parsed late parses loaded mid loads less g one =
      let more = stored_more h.end.entries n to less in
      let single = stored_more h.end.entries n (n + 1) (omega arith) in
      let none = stored_none h.end.entries (n + 1) in
      let x = g.parses_are in
      let y = one.parses_are in
      let a = g.few in
      let b = one.few in
      record {
        rows = adds_older_both h.end.entries def value n (n + 1) to before rows after (omega arith) (omega arith) g.rows one.rows;
        parses_are = omega arith;
        most = g.most + one.most;
        allowed = older_full_both h.prior n (n + 1) to g.most one.most g.allowed one.allowed;
        few = omega arith;
      }
