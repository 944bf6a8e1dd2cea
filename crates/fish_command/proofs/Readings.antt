-- The words are a command with some parts exactly where these are read.
use Rattle.std.proofs.Common.{◌≡◌, ℕ, List, [], ◌∷◌, Bool, true, false, refl, sym, ap, ◌∙◌, subst}
use Rattle.std.specs.Prelude.{◌||◌, Option, Some, None, codes, is_some, option_and_then, option_map, unwrap_or, if◌then◌else◌}
use Rattle.std.specs.Str.{bytes_eq}
use Rattle.std.specs.Str.Parse.{starts_with_minus}
use Rattle.fish_command.specs.Line.{IsLine}
use Rattle.fish_value.specs.Number.{int_of}
use Rattle.fish_command.specs.Options.{Word, json_lines, within}
use Rattle.fish_command.specs.within.Reading.{Found, at_part, nothing_found, read, request_of, run_in}
use Rattle.fish_command.specs.within.Reading.{run_of, sample_in, sample_of, select_in}
use Rattle.fish_command.specs.within.Reading.{select_of}
use Rattle.fish_command.specs.Request.{IsRequest, Request, run, sample, select}
use Rattle.fish_command.specs.Sizes.{most_sample_records}
use Rattle.fish_command.specs.declared.options.Layout.{Layout}
use Rattle.fish_command.specs.declared.options.Options.{Options}
use Rattle.fish_command.proofs.Complete.{line_read}
use Rattle.fish_command.proofs.Names.{same_word}
use Rattle.fish_command.proofs.Sound.{read_goes}

-- ---- lines

-- what is read is a line
line_is : (words : List Word) (f : Found) → read words (at_part nothing_found) ≡ Some f → IsLine words f.plain f.options
line_is words f e =
    let goes = read_goes words (at_part nothing_found) f e in
    record {
      parts = goes.parts;
      behind = goes.behind;
      sound = goes.sound;
      unmarked = goes.unmarked;
      spells = goes.spells;
      plains = goes.plains;
      once = goes.once;
    }

-- a line is read
line_reads : (words plain : List Word) (o : Options) → IsLine words plain o
    → read words (at_part nothing_found) ≡ Some (record { plain = plain; options = o })
line_reads words plain o h =
    rw h.spells
    (line_read h.parts h.behind nothing_found o h.sound h.unmarked h.once
    ∙ ap (λ (ws : List Word). Some (record { plain = ws; options = o })) (sym h.plains))

-- ---- what is read is a command

-- three plain words with a form alone are a `select`
select_by : (behind : List Word) (a b c : Word) (o : Options) (q : Request) (pages bits : Option ℕ)
    → IsLine behind (a ∷ b ∷ c ∷ []) o → o.pages ≡ pages → o.bits ≡ bits
    → (if is_some pages || is_some bits then None else Some (select a b c (unwrap_or o.layout json_lines))) ≡ Some q
    → IsRequest (codes "select" ∷ behind) q
select_by behind a b c o q None None line no_pages no_bits e =
    let same : select a b c (unwrap_or o.layout json_lines) ≡ q = cc in
    subst (IsRequest (codes "select" ∷ behind)) same (record {
      behind = behind;
      options = o;
      spells = refl;
      line = line;
      layout_is = refl;
      no_pages = no_pages;
      no_bits = no_bits;
    })
select_by behind a b c o q (Some n) bits line no_pages no_bits e = absurd cc
select_by behind a b c o q None (Some n) line no_pages no_bits e = absurd cc

-- a line that is read as `select` is one
select_is : (behind plain : List Word) (o : Options) (q : Request) → IsLine behind plain o → select_of plain o ≡ Some q
    → IsRequest (codes "select" ∷ behind) q
select_is behind [] o q line e = absurd cc
select_is behind (a ∷ []) o q line e = absurd cc
select_is behind (a ∷ b ∷ []) o q line e = absurd cc
select_is behind (a ∷ b ∷ c ∷ []) o q line e = select_by behind a b c o q o.pages o.bits line refl refl e
select_is behind (a ∷ b ∷ c ∷ d ∷ more) o q line e = absurd cc

-- one plain word with sizes alone is a `run`
run_by : (store a : Word) (behind : List Word) (o : Options) (q : Request) (layout : Option Layout)
    → starts_with_minus store ≡ false → IsLine behind (a ∷ []) o → o.layout ≡ layout
    → (if is_some layout then None else Some (run store a o.pages o.bits)) ≡ Some q
    → IsRequest (codes "run" ∷ store ∷ behind) q
run_by store a behind o q None starts line no_layout e =
    let same : run store a o.pages o.bits ≡ q = cc in
    subst (IsRequest (codes "run" ∷ store ∷ behind)) same (record {
      behind = behind;
      options = o;
      spells = refl;
      plain = starts;
      line = line;
      pages_are = refl;
      bits_are = refl;
      no_layout = no_layout;
    })
run_by store a behind o q (Some l) starts line no_layout e = absurd cc

-- a line that is read as `run` is one
run_is : (store : Word) (behind plain : List Word) (o : Options) (q : Request) → starts_with_minus store ≡ false
    → IsLine behind plain o → run_of store plain o ≡ Some q → IsRequest (codes "run" ∷ store ∷ behind) q
run_is store behind [] o q starts line e = absurd cc
run_is store behind (a ∷ []) o q starts line e = run_by store a behind o q o.layout starts line refl e
run_is store behind (a ∷ b ∷ more) o q starts line e = absurd cc

-- one plain word that is a number within its bounds, and no option, are a `sample`
sample_by : (behind : List Word) (a : Word) (o : Options) (q : Request) (layout : Option Layout) (pages bits number : Option ℕ)
    → IsLine behind (a ∷ []) o → o.layout ≡ layout → o.pages ≡ pages → o.bits ≡ bits → within 0 most_sample_records (int_of a) ≡ number
    → (if is_some layout || (is_some pages || is_some bits) then None else option_map sample number) ≡ Some q
    → IsRequest (codes "sample" ∷ behind) q
sample_by behind a o q None None None (Some n) line no_layout no_pages no_bits is e =
    let same : sample n ≡ q = cc in
    subst (IsRequest (codes "sample" ∷ behind)) same (record {
      behind = behind;
      options = o;
      word = a;
      spells = refl;
      line = line;
      number_is = is;
      no_layout = no_layout;
      no_pages = no_pages;
      no_bits = no_bits;
    })
sample_by behind a o q None None None None line no_layout no_pages no_bits is e = absurd cc
sample_by behind a o q None None (Some n) number line no_layout no_pages no_bits is e = absurd cc
sample_by behind a o q None (Some n) bits number line no_layout no_pages no_bits is e = absurd cc
sample_by behind a o q (Some l) pages bits number line no_layout no_pages no_bits is e = absurd cc

-- a line that is read as `sample` is one
sample_is : (behind plain : List Word) (o : Options) (q : Request) → IsLine behind plain o → sample_of plain o ≡ Some q
    → IsRequest (codes "sample" ∷ behind) q
sample_is behind [] o q line e = absurd cc
sample_is behind (a ∷ []) o q line e =
    sample_by behind a o q o.layout o.pages o.bits (within 0 most_sample_records (int_of a)) line refl refl refl refl e
sample_is behind (a ∷ b ∷ more) o q line e = absurd cc

-- the words after `select`
select_in_is : (behind : List Word) (q : Request) (r : Option Found) → read behind (at_part nothing_found) ≡ r
    → option_and_then (λ f. select_of f.plain f.options) r ≡ Some q → IsRequest (codes "select" ∷ behind) q
select_in_is behind q None reads e = absurd cc
select_in_is behind q (Some f) reads e = select_is behind f.plain f.options q (line_is behind f reads) e

-- the words after `run` and the store
run_behind_is : (store : Word) (behind : List Word) (q : Request) (minus : Bool) (r : Option Found)
    → starts_with_minus store ≡ minus → read behind (at_part nothing_found) ≡ r
    → (if minus then None else option_and_then (λ f. run_of store f.plain f.options) r) ≡ Some q
    → IsRequest (codes "run" ∷ store ∷ behind) q
run_behind_is store behind q true r starts reads e = absurd cc
run_behind_is store behind q false None starts reads e = absurd cc
run_behind_is store behind q false (Some f) starts reads e =
    run_is store behind f.plain f.options q starts (line_is behind f reads) e

-- the words after `run`
run_in_is : (behind : List Word) (q : Request) → run_in behind ≡ Some q → IsRequest (codes "run" ∷ behind) q
run_in_is [] q e = absurd cc
run_in_is (store ∷ behind) q e = run_behind_is store behind q _ _ refl refl e

-- the words after `sample`
sample_in_is : (behind : List Word) (q : Request) (r : Option Found) → read behind (at_part nothing_found) ≡ r
    → option_and_then (λ f. sample_of f.plain f.options) r ≡ Some q → IsRequest (codes "sample" ∷ behind) q
sample_in_is behind q None reads e = absurd cc
sample_in_is behind q (Some f) reads e = sample_is behind f.plain f.options q (line_is behind f reads) e

-- words by the first of them
verb_is : (verb : Word) (behind : List Word) (q : Request) (a b c : Bool) → bytes_eq verb (codes "select") ≡ a
    → bytes_eq verb (codes "run") ≡ b → bytes_eq verb (codes "sample") ≡ c
    → (if a then select_in behind else (if b then run_in behind else (if c then sample_in behind else None))) ≡ Some q
    → IsRequest (verb ∷ behind) q
verb_is verb behind q true b c is_select is_run is_sample e =
    subst (λ (v : Word). IsRequest (v ∷ behind) q) (sym (same_word verb (codes "select") is_select))
    (select_in_is behind q _ refl e)
verb_is verb behind q false true c is_select is_run is_sample e =
    subst (λ (v : Word). IsRequest (v ∷ behind) q) (sym (same_word verb (codes "run") is_run)) (run_in_is behind q e)
verb_is verb behind q false false true is_select is_run is_sample e =
    subst (λ (v : Word). IsRequest (v ∷ behind) q) (sym (same_word verb (codes "sample") is_sample)) (sample_in_is behind q _ refl e)
verb_is verb behind q false false false is_select is_run is_sample e = absurd cc

-- the parts that are read are those of the command
pub request_is : (words : List Word) (q : Request) → request_of words ≡ Some q → IsRequest words q
request_is [] q e = absurd cc
request_is (verb ∷ behind) q e = verb_is verb behind q _ _ _ refl refl refl e

-- ---- a command is read

-- the parts of a command are those that are read
pub request_reads : (words : List Word) (q : Request) → IsRequest words q → request_of words ≡ Some q
request_reads words (select def value file layout) h =
    let reads = line_reads h.behind (def ∷ value ∷ file ∷ []) h.options h.line in
    rw (h.spells, reads, h.no_pages, h.no_bits, h.layout_is) refl
request_reads words (run store script pages bits) h =
    let reads = line_reads h.behind (script ∷ []) h.options h.line in
    rw (h.spells, h.plain, reads, h.no_layout, h.pages_are, h.bits_are) refl
request_reads words (sample number) h =
    let reads = line_reads h.behind (h.word ∷ []) h.options h.line in
    rw (h.spells, reads, h.no_layout, h.no_pages, h.no_bits, h.number_is) refl
