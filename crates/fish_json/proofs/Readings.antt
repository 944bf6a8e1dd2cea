-- What `serde_json` reads, from the tape of the text and the walk over its tokens.
use Rattle.std.proofs.Common.{◌≡◌, ℕ, ◌≤◌, List, [], ◌∷◌, Bool, true, false, Option, Some, None, option_map}
use Rattle.std.proofs.Common.{option_and_then, is_some, unwrap_or, IsSome, length, le-leb, refl, sym, ap, ◌∙◌, subst}
use Rattle.std.proofs.Common.{arith, append-nil}
use Rattle.json.specs.Token.{Token}
use Rattle.json.specs.Lex.{tokens}
use Rattle.json.specs.Json as json
use Rattle.json.specs.Tree.{json_tokens, depth}
use Rattle.json.proofs.Nesting.{value-depth}
use Rattle.json.proofs.Printed.Trees.{value-json_tokens}
use Rattle.json.proofs.Unique.Spelling.{value-json_tokens_back, tokens-document}
use Rattle.serde_json.specs.Data.{Data, null}
use Rattle.serde_json.specs.Read.{max_depth, of_json, read}
use Rattle.fish_value.specs.Json.{reading}
use Rattle.fish_value.specs.Limits.{longest_payload}
use Rattle.fish_json.specs.Reading.{if_object, record_of}
use Rattle.fish_json.specs.Tape.{data_at}
use Rattle.fish_json.specs.within.Tape.{open_after, StandsForData}
use Rattle.fish_json.proofs.Depth.{good, open_after-json, passed, has_data}
use Rattle.fish_json.proofs.Nesting.{shallow, is_good}

abbrev Read : Type 0
Read = Option (json.Json × List Token)

-- the document that was read, and its data
abbrev whole : Read → Option json.Json
whole o = option_and_then (λ p. json.if_last p.0 p.1) o

-- what is read at depth 127 is read at depth 128
deeper : (ts r : List Token) (j : json.Json) → json.value max_depth ts ≡ Some (j, r)
    → json.value json.max_depth ts ≡ Some (j, r)
deeper ts r j e =
    ap (json.value json.max_depth) (value-json_tokens_back max_depth ts r j e)
    ∙ value-json_tokens j json.max_depth r (let h : depth j ≤ 127 = value-depth max_depth ts r j e in omega arith)

-- ---- no document

none_read : (ts : List Token) (o : Read) → json.value max_depth ts ≡ o
    → whole (json.value json.max_depth ts) ≡ None → option_and_then of_json (whole o) ≡ None
none_read ts None e missing = refl
none_read ts (Some (j, [])) e missing = let is = ap whole (deeper ts [] j e) in absurd (cc)
none_read ts (Some (j, t ∷ r)) e missing = refl

pub read-no_document : (text : List ℕ) → json.document text ≡ None → read text ≡ None
read-no_document text missing = none_read (tokens text) (json.value max_depth (tokens text)) refl missing

-- ---- a document that fits

passes : (b : Bool) (n : ℕ) → is_some (passed b (Some n)) ≡ true → b ≡ true
passes true n e = refl
passes false n e = cc

walked : (j : json.Json) → open_after 0 (json_tokens j) ≡ passed (good 0 j) (Some 0)
walked j = ap (open_after 0) (sym (append-nil (json_tokens j))) ∙ open_after-json j 0 []

good_of : (ts : List Token) (j : json.Json) → ts ≡ json_tokens j → is_some (open_after 0 ts) ≡ true → good 0 j ≡ true
good_of ts j is e = passes (good 0 j) 0 (sym (ap is_some (ap (open_after 0) is ∙ walked j)) ∙ e)

at_depth : (d : ℕ) (ts : List Token) (j : json.Json) → ts ≡ json_tokens j → depth j ≤ d → json.value d ts ≡ Some (j, [])
at_depth d ts j is h = ap (json.value d) (is ∙ sym (append-nil (json_tokens j))) ∙ value-json_tokens j d [] h

fits_at : (ts : List Token) (j : json.Json) → ts ≡ json_tokens j → is_some (open_after 0 ts) ≡ true
    → (is_some (data_at ts) ≡ true) × (option_and_then of_json (whole (json.value max_depth ts)) ≡ data_at ts)
unfolding data_at
fits_at ts j is e =
    let fine = good_of ts j is e in
    let low : depth j ≤ 127 = (let h = shallow j 0 (omega arith) fine in omega (arith, h)) in
    let found = has_data j 0 fine in
    let tape = at_depth json.max_depth ts j is (omega arith) in
    let here = ap (λ o. option_and_then of_json (option_map (λ p. p.0) o)) tape in
    let there = ap (λ o. option_and_then of_json (whole o)) (at_depth max_depth ts j is low) in
    (ap is_some (here ∙ found.1), there ∙ sym here)

fits_some : (text : List ℕ) (ts : List Token) (o : Option json.Json) → ts ≡ tokens text → json.document text ≡ o
    → IsSome o → is_some (open_after 0 ts) ≡ true
    → (is_some (data_at ts) ≡ true) × (read text ≡ data_at ts)
fits_some text ts None same is some fit = absurd (cc)
fits_some text ts (Some j) same is some fit =
    let x = fits_at ts j (same ∙ tokens-document text j is) fit in
    (x.0, ap (λ l. option_and_then of_json (whole (json.value max_depth l))) (sym same) ∙ x.1)

pub read-fits : (text : List ℕ) (ts : List Token) → ts ≡ tokens text → IsSome (json.document text)
    → is_some (open_after 0 ts) ≡ true
    → (is_some (data_at ts) ≡ true) × (read text ≡ data_at ts)
read-fits text ts same some fit = fits_some text ts (json.document text) same refl some fit

-- ---- a document that does not fit

refused : (ts : List Token) (j : json.Json) → json.value max_depth ts ≡ Some (j, [])
    → is_some (open_after 0 ts) ≡ false → (o : Option Data) → of_json j ≡ o → o ≡ None
refused ts j e missing None is = refl
refused ts j e missing (Some d) is =
    let spelled = value-json_tokens_back max_depth ts [] j e ∙ append-nil (json_tokens j) in
    let low : depth j ≤ 127 = value-depth max_depth ts [] j e in
    let fine = is_good j 0 d is (omega arith) in
    let open_at = ap (open_after 0) spelled ∙ walked j ∙ ap (λ b. passed b (Some 0)) fine in
    absurd (cc)

none_fits : (ts : List Token) (o : Read) → json.value max_depth ts ≡ o → is_some (open_after 0 ts) ≡ false
    → option_and_then of_json (whole o) ≡ None
none_fits ts None e missing = refl
none_fits ts (Some (j, [])) e missing = refused ts j e missing (of_json j) refl
none_fits ts (Some (j, t ∷ r)) e missing = refl

pub read-no_fit : (text : List ℕ) (ts : List Token) → ts ≡ tokens text → is_some (open_after 0 ts) ≡ false
    → read text ≡ None
read-no_fit text ts same missing =
    none_fits (tokens text) (json.value max_depth (tokens text)) refl
    (ap (λ l. is_some (open_after 0 l)) (sym same) ∙ missing)

-- ---- the data at a tape's front

stands : (ts : List Token) (o : Read) → json.value json.max_depth ts ≡ o
    → is_some (option_and_then of_json (option_map (λ p. p.0) o)) ≡ true
    → StandsForData ts (unwrap_or (option_and_then of_json (option_map (λ p. p.0) o)) null)
stands ts None e some = absurd (cc)
stands ts (Some (j, r)) e some = go (of_json j) refl some
  where
    go : (d : Option Data) → of_json j ≡ d → is_some d ≡ true → StandsForData ts (unwrap_or d null)
    go None is h = absurd (cc)
    go (Some d) is h = (j, (json.max_depth, r, e), is)

data_at-stands : (ts : List Token) → is_some (data_at ts) ≡ true → StandsForData ts (unwrap_or (data_at ts) null)
unfolding data_at
data_at-stands ts some = stands ts (json.value json.max_depth ts) refl some

-- the same at a root, which is the whole tape
pub root-stands : (root ts : List Token) → root ≡ ts → is_some (data_at ts) ≡ true
    → StandsForData root (unwrap_or (data_at ts) null)
root-stands root ts same some = subst (λ l. StandsForData l (unwrap_or (data_at ts) null)) (sym same) (data_at-stands ts some)

-- ---- the record

an_object : (o : Option Data) → is_some o ≡ true → is_some (if_object (unwrap_or o null)) ≡ true
    → option_and_then if_object o ≡ Some (unwrap_or o null)
an_object None some object = absurd (cc)
an_object (Some null) some object = absurd (cc)
an_object (Some (Data.boolean b)) some object = absurd (cc)
an_object (Some (Data.number n)) some object = absurd (cc)
an_object (Some (Data.string s)) some object = absurd (cc)
an_object (Some (Data.array ds)) some object = absurd (cc)
an_object (Some (Data.object ms)) some object = refl

none_of : (o : Option Data) → is_some o ≡ false → o ≡ None
none_of None e = refl
none_of (Some d) e = absurd (cc)

no_object : (o : Option Data) → is_some o ≡ true → is_some (if_object (unwrap_or o null)) ≡ false
    → IsSome o × (option_and_then if_object o ≡ None)
no_object None some object = absurd (cc)
no_object (Some d) some object = (refl, none_of (if_object d) object)

pub record_yes : (b : List ℕ) (ts : List Token) → length b ≤ longest_payload → reading b ≡ data_at ts
    → is_some (data_at ts) ≡ true → is_some (if_object (unwrap_or (data_at ts) null)) ≡ true
    → record_of b ≡ Some (unwrap_or (data_at ts) null)
unfolding record_of
record_yes b ts short is some object = rw (le-leb (length b) longest_payload short, is) (an_object (data_at ts) some object)

pub record_no : (b : List ℕ) (ts : List Token) → length b ≤ longest_payload → reading b ≡ data_at ts
    → is_some (data_at ts) ≡ true → is_some (if_object (unwrap_or (data_at ts) null)) ≡ false
    → IsSome (reading b) × (record_of b ≡ None)
unfolding record_of
record_no b ts short is some object =
    let none = no_object (data_at ts) some object in
    (ap is_some is ∙ some, rw (le-leb (length b) longest_payload short, is) none.1)
