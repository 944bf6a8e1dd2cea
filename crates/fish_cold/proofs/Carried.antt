-- Each number below the base of a disk that carries its table has its words.
use Rattle.std.proofs.Common.{◌≡◌, ℕ, ◌+◌, ◌-◌, ◌*◌, ◌/◌, ◌%◌, ◌<◌, ◌≤◌, List, length, drop, inl, inr, refl, sym, ap}
use Rattle.std.proofs.Common.{◌∙◌, subst, arith, length-drop}
use Rattle.std.specs.Prelude.{Option, Some, Result, Ok, Err, IfSome, slice_get}
use Rattle.fish_image.specs.Log.{Agrees, Follows, behind_record, region, region_lines}
use Rattle.fish_image.specs.Reached.{Reached}
use Rattle.fish_layout.specs.Pages.{page_of}
use Rattle.fish_image.specs.Stands.{words_in}
use Rattle.fish_image.proofs.Agreement.{agrees_first, agrees_number, agrees_within, front_whole, goes}
use Rattle.fish_rule.specs.declared.view.Key.{Key}
use Rattle.fish_slots.specs.Offsets.{lines_at}
use Rattle.fish_slots.specs.Slots.{line_count}
use Rattle.fish_cold.specs.Carries.{CarriesTable, IsCarried, IsEntryAnswer, IsEntryOf, IsEntryRead, IsPriorRecord}
use Rattle.fish_catalog.specs.declared.entry.Entry.{Entry}
use Rattle.fish_catalog.specs.declared.entry.Entry.TheVariants.{Stored}
use Rattle.fish_cold.specs.Answers.{AnswersEntry, IsRecordHead, LoadsWords, Walks}
use Rattle.fish_cold.specs.Cached.{HasNodeOn, HasRegion, IsReadFrom, words_on}
use Rattle.fish_cold.specs.declared.node.ColdNode.{ColdNode}
use Rattle.fish_cold.proofs.ChainLemmas.{key_lower}
use Rattle.fish_cold.specs.Chains.{IsKeyAt}
use Rattle.fish_layout.specs.Body.{IsBody}
use Rattle.fish_layout.specs.declared.parts.BodyParts.{BodyParts}
use Rattle.fish_layout.specs.declared.parts.KeyPart.{KeyPart}
use Rattle.fish_layout.proofs.Outlines.{body_length}
use Rattle.fish_layout.proofs.Sizes.{roomy}
use Rattle.fish_cold.specs.declared.refusal.ColdRefusal.{ColdRefusal}
use Rattle.fish_cold.specs.declared.refusal.ColdRefusal.TheVariants.{Damaged, DiskFault, OutOfMemory}
use Rattle.fish_cold.specs.Pages.{log_words, page_words}
use Rattle.fish_cold.specs.Regions.{Leads}
use Rattle.fish_cold.specs.Starts.{IsStartOf}
use Rattle.fish_cold.specs.declared.cold.Cold.{Cold}
use Rattle.fish_cold.proofs.LogWords.{ArePages, are_pages, lines_room, lines_words}
use Rattle.fish_cold.proofs.Priors.{all_started, carried_entry, entry_at, entry_in, line_grows, region_on}

-- a region below the base lies before it, in words that are those of the file's pages
record IsLaid {content : Option (List ℕ)} {k : Key} {cold : Cold} (h : CarriesTable content k cold) (t u : Reached) : Type 0 where
  pages : ArePages (words_in h.prior.lines) cold.base.line (λ q. page_words cold.base.line q h.image)
  some : 1 ≤ region_lines (drop (4 * t.line) (words_in h.prior.lines))
  line : u.line ≡ t.line + region_lines (drop (4 * t.line) (words_in h.prior.lines))
  within : u.line ≤ cold.base.line

laid : (content : Option (List ℕ)) (k : Key) (cold : Cold) (h : CarriesTable content k cold) (n : ℕ) → n < k.number → (t u : Reached)
    → Agrees h.prior.commit (words_in h.prior.lines) n t → Follows h.prior.commit (words_in h.prior.lines) t u → IsLaid h t u
laid content k cold h n less t u at f =
    let prior = h.prior in
    let commit = prior.commit in
    let counts = prior.has.counts in
    let w = words_in prior.lines in
    let is : w ≡ log_words h.image 0 (length w) =
    subst (λ l. words_in l ≡ log_words h.image 0 (length (words_in l))) counts.lines_are (lines_words h.image (line_count prior.body)) in
    let g = goes commit t _ _ u f in
    let some = g.some in
    let front = front_whole commit t (drop (4 * t.line) w) u f in
    let behind = length-drop (4 * t.line) w in
    let many : 0 < length w = omega arith in
    let room : lines_at + 8 * length w ≤ length h.image =
    subst (λ l. 0 < length (words_in l) → lines_at + 8 * length (words_in l) ≤ length h.image) counts.lines_are
    (lines_room h.image (line_count prior.body)) many in
    let all = agrees_within commit w k.number h.end prior.agrees in
    let line = h.line in
    let base = h.base_line in
    let ends = line_grows commit w k.number h.end prior.agrees n t u less at f in
    record {
      pages = are_pages h.image w cold.base.line is (omega arith) room;
      some = some;
      line = g.line;
      within = omega arith;
    }

-- it is led to
carried_at : (content : Option (List ℕ)) (k : Key) (cold : Cold) (h : CarriesTable content k cold) (n : ℕ) → n < k.number
    → (t u : Reached) → Agrees h.prior.commit (words_in h.prior.lines) n t
    → Follows h.prior.commit (words_in h.prior.lines) t u → IsCarried cold h.image h.end n
carried_at content k cold h n less t u at f =
    let commit = h.prior.commit in
    let w = words_in h.prior.lines in
    let words : ℕ → List ℕ = λ p. page_words cold.base.line p h.image in
    let l = laid content k cold h n less t u at f in
    let line = h.line in
    let base = h.base_line in
    let st = all_started commit w cold.base.line words l.pages k.number h.end h.prior.agrees (omega arith) in
    let kept = st.kept n t less at in
    let low = st.below kept.is_start.at kept.start kept.is_start.there in
    let lower = low.2 in
    record {
      rest = drop (4 * (t.line % 32768)) (page_words cold.base.line (page_of t.line) h.image);
      region_is = record {
        start = kept.start;
        is_start = subst (λ s. IsStartOf s n kept.start) (sym h.starts) kept.is_start;
        older = omega arith;
        line = t.line % 32768;
        leads = subst (λ p. Leads (page_words cold.base.line p h.image) (kept.start.line % 32768) (n - kept.start.number) (t.line % 32768))
            (sym kept.page_is) kept.leads;
        rest_is = ap (λ p. drop (4 * (t.line % 32768)) (page_words cold.base.line p h.image)) (sym kept.page_is);
      };
      entry = entry_in f;
      there = entry_at commit w k.number h.end h.prior.agrees n t u less at f;
      is = carried_entry commit w cold.base.line words l.pages t u f l.within;
    }

pub carried : (content : Option (List ℕ)) (k : Key) (cold : Cold) (h : CarriesTable content k cold) (n : ℕ) → n < k.number
    → IsCarried cold h.image h.end n
carried content k cold h n less =
    let found = agrees_first h.prior.commit (words_in h.prior.lines) n k.number h.end less h.prior.agrees in
    carried_at content k cold h n less found.0 found.2.0 found.1 found.2.1

-- and the words there are those of the record of the prior part, which is the entry
pub record IsRecordThere {content : Option (List ℕ)} {k : Key} {cold : Cold} (h : CarriesTable content k cold) (n : ℕ) (p : BodyParts)
    : Type 0 where
  pub rest : List ℕ
  pub region_is : HasRegion cold h.image n rest
  pub head : IsRecordHead p rest
  pub there : slice_get h.end.entries n ≡ Some (Stored p.lane p.form p.payload)

pub record_there : (content : Option (List ℕ)) (k : Key) (cold : Cold) (h : CarriesTable content k cold) (n : ℕ) (p : BodyParts)
    → IsPriorRecord h.prior n p → IsRecordThere h n p
unfolding carried_at
record_there content k cold h n p stored =
    let commit = h.prior.commit in
    let w = words_in h.prior.lines in
    let t = stored.at in
    let lines = region_lines (drop (4 * t.line) w) in
    let u = behind_record commit t lines p in
    let f : Follows commit w t u = inr (p, stored.is, refl) in
    let l = laid content k cold h n stored.few t u stored.agrees f in
    let some = l.some in
    let line = l.line in
    let within = l.within in
    let words : ℕ → List ℕ = λ q. page_words cold.base.line q h.image in
    let at = carried_at content k cold h n stored.few t u stored.agrees f in
    record {
      rest = at.rest;
      region_is = at.region_is;
      head = subst (IsBody p) (sym (region_on commit w cold.base.line words l.pages t (omega arith) lines refl some
          stored.is.kept.in_page (omega arith))) stored.is.body;
      there = at.there;
    }

-- what is answered for the words of an entry is the entry
pub answered_entry : (number : ℕ) (rest : List ℕ) (entry : Entry) (result : Result Entry ColdRefusal) → IsEntryOf rest entry
    → AnswersEntry number rest result → IsEntryAnswer entry result
answered_entry number rest entry (Ok found) (inl void) a = a.1 void.0 ∙ sym void.1
answered_entry number rest entry (Ok found) (inr stored) a = a.0 stored.0 stored.1 ∙ sym stored.2
answered_entry number rest entry (Err (Damaged n)) (inl void) a = a.2 void.0
answered_entry number rest entry (Err (Damaged n)) (inr stored) a = a.1 stored.0 stored.1
answered_entry number rest entry (Err DiskFault) is a = tt
answered_entry number rest entry (Err OutOfMemory) is a = tt

-- a key entry of the prior part is on its page
pub carried_key : (content : Option (List ℕ)) (k : Key) (cold : Cold) (h : CarriesTable content k cold) (b place n : ℕ)
    (p : BodyParts) (j : ℕ)
    (key : KeyPart) (at : IsKeyAt h.prior b place n p j key) → HasNodeOn cold h.image place (at.stored.at.line % 32768) p j key
carried_key content k cold h b place n p j key at =
    let commit = h.prior.commit in
    let w = words_in h.prior.lines in
    let stored = at.stored in
    let t = stored.at in
    let lines = region_lines (drop (4 * t.line) w) in
    let u = behind_record commit t lines p in
    let f : Follows commit w t u = inr (p, stored.is, refl) in
    let l = laid content k cold h n stored.few t u stored.agrees f in
    let some = l.some in
    let line = l.line in
    let below = l.within in
    let words : ℕ → List ℕ = λ q. page_words cold.base.line q h.image in
    let in_page = stored.is.kept.in_page in
    let size = stored.is.size in
    let full = body_length stored.is.body in
    let keys = roomy p in
    let within = at.within in
    let place_is = at.place_is in
    let whole : 32768 * (t.line / 32768) + t.line % 32768 ≡ t.line = omega arith in
    let small : t.line % 32768 < 32768 = omega arith in
    let last : 32768 * ((t.line + lines - 1) / 32768) + (t.line + lines - 1) % 32768 ≡ t.line + lines - 1 = omega arith in
    let low : (t.line + lines - 1) % 32768 < 32768 = omega arith in
    let page : page_of t.line ≡ place / 131072 = omega arith in
    record {
      body = subst (λ q. IsBody p (region (drop (4 * (t.line % 32768)) (page_words cold.base.line q h.image)))) page
          (subst (IsBody p) (sym (region_on commit w cold.base.line words l.pages t (omega arith) lines refl some in_page
          (omega arith))) stored.is.body);
      at = omega arith;
      within = at.within;
      is = at.is;
    }

-- ---- the calls

-- what is said of a content that is known
of_known : (o : Option (List ℕ)) (image : List ℕ) (P : List ℕ → Type 0) → o ≡ Some image → IfSome o P → P image
of_known o image P is h = subst (λ x. IfSome x P) is h

-- the entry of a number
pub record_carried : (content : Option (List ℕ)) (k : Key) (cold : Cold) (h : CarriesTable content k cold) (n : ℕ) → n < cold.base.number
    → (old new : ℕ) (result : Result Entry ColdRefusal)
    → IfSome content (λ c. (rest : List ℕ) → IsReadFrom c cold → HasRegion cold c n rest
    → AnswersEntry n rest result × LoadsWords rest old new result)
    → IsEntryRead h n result
record_carried content k cold h n less old new result says =
    let base = h.base_number in
    let at = carried content k cold h n (omega arith) in
    let answers = of_known content h.image _ h.is says at.rest h.read at.region_is in
    record { entry = at.entry; there = at.there; is = answered_entry n at.rest at.entry result at.is answers.0 }

-- a key entry
pub walk_carried : (content : Option (List ℕ)) (t : Key) (cold : Cold) (h : CarriesTable content t cold) (b place n : ℕ)
    (p : BodyParts) (j : ℕ)
    (key : KeyPart) → IsKeyAt h.prior b place n p j key → (below from : ℕ) → n < below → (result : Result (Option ColdNode) ColdRefusal)
    → IfSome content (λ c. (line : ℕ) (p : BodyParts) (j : ℕ) (k : KeyPart) → IsReadFrom c cold → HasNodeOn cold c place line p j k
    → p.number < below → k.prev < place → Walks place from p j k result)
    → Walks place from p j key result
walk_carried content t cold h b place n p j key at below from less result says =
    let stored = at.stored in
    let number = stored.is.number ∙ agrees_number h.prior.commit (words_in h.prior.lines) n stored.at stored.agrees in
    of_known content h.image _ h.is says (stored.at.line % 32768) p j key h.read
    (carried_key content t cold h b place n p j key at) (omega arith)
    (key_lower h.image t.number h.end h.prior b place n p j key at)

-- the record of a key entry
pub row_carried : (content : Option (List ℕ)) (t : Key) (cold : Cold) (h : CarriesTable content t cold) (b place n : ℕ)
    (p : BodyParts) (j : ℕ)
    (key : KeyPart) → IsKeyAt h.prior b place n p j key → (number old new : ℕ) (result : Result Entry ColdRefusal)
    → IfSome content (λ c. (line : ℕ) (p : BodyParts) (k : KeyPart) → IsReadFrom c cold → HasNodeOn cold c place line p j k
    → AnswersEntry number (drop (4 * line) (words_on cold c place)) result
    × LoadsWords (drop (4 * line) (words_on cold c place)) old new result)
    → IsEntryAnswer (Stored p.lane p.form p.payload) result
row_carried content t cold h b place n p j key at number old new result says =
    let line = at.stored.at.line % 32768 in
    let on = carried_key content t cold h b place n p j key at in
    let answers = of_known content h.image _ h.is says line p key h.read on in
    answered_entry number (drop (4 * line) (words_on cold h.image place)) (Stored p.lane p.form p.payload) result (inr (p, on.body, refl))
    answers.0
