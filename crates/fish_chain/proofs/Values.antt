-- The value of a key entry by its words, in every moment of a pass that read them.
use Rattle.std.proofs.Common.{◌≡◌, ◌≢◌, ℕ, ◌+◌, ◌-◌, ◌*◌, ◌/◌, ◌%◌, ◌^◌, ◌<◌, ◌≤◌, List, length, get_or, sym, refl, ap}
use Rattle.std.proofs.Common.{◌∙◌, subst, arith, Some, slice_get, ℤ, pos, negsuc, of_z, to_z, SFits, rules}
use Rattle.std.proofs.lemmas.Bool.Decides.{nat_tests}
use Rattle.std.proofs.lemmas.Int.{to_z-of_z}
use Rattle.std.specs.Int.{to_le_bytes}
use Rattle.std.specs.Int.Width.{w64}
use Rattle.fish_layout.specs.Values.{complement}
use Rattle.std.proofs.Math.Decide.{dec_lt}
use Rattle.std.proofs.lemmas.List.{ext_get_or}
use Rattle.std.proofs.lemmas.List.FromFn.{get_or-map-range_with_len, length-map-range_with_len}
use Rattle.std.proofs.lemmas.Option.{get_or_from_slice_get, slice_get_read, slice_get_within}
use Rattle.fish_chain.specs.Values.{HasValue, IsNodeGiven, record_words_at}
use Rattle.fish_chain.specs.within.Values.{AreBytesIn, AreBytesOf, IsWordIn, SaysBytes, byte_at}
use Rattle.fish_chain.specs.declared.walk.Node.{Node}
use Rattle.fish_layout.proofs.Buckets.{byte_of, value_in-key}
use Rattle.fish_layout.proofs.Entries.{proper_at, some_element}
use Rattle.fish_layout.proofs.KeyWords.{SaysKey, spelled_key}
use Rattle.fish_layout.proofs.Once.{same_value}
use Rattle.fish_layout.proofs.Spelled.{spelled_keys}
use Rattle.fish_layout.specs.Body.{IsProperValue}
use Rattle.fish_layout.specs.Bucket.{byte_behind, value_in}
use Rattle.fish_layout.specs.Cleared.{Spells, entry_at}
use Rattle.fish_layout.specs.Entry.{value_offset, value_size}
use Rattle.fish_layout.specs.Header.{keys_of}
use Rattle.fish_layout.specs.Values.{kind_code, value_bytes}
use Rattle.fish_value.specs.Number.{fits_i64}
use Rattle.fish_value.specs.declared.value.Value.TheVariants as kind
use Rattle.std.specs.Prelude.{IsTrue, ⊤}
use Rattle.fish_rule.proofs.laws.Learning.{learns_both}
use Rattle.fish_layout.specs.declared.parts.BodyParts.{BodyParts}
use Rattle.fish_layout.specs.declared.parts.KeyPart.{KeyPart}
use Rattle.fish_rule.proofs.laws.Lists.{all_among}
use Rattle.fish_rule.proofs.laws.Regions.{region_found, word_known}
use Rattle.fish_rule.proofs.laws.Moments.{stored_parts}
use Rattle.fish_rule.specs.Facts.{IsFound, IsFactKnown}
use Rattle.fish_rule.specs.Logs.{Learns}
use Rattle.fish_rule.specs.Rule.{Rule}
use Rattle.fish_rule.specs.Views.{Among}
use Rattle.fish_rule.specs.ChainFacts.{Always, IsNodeIn}
use Rattle.fish_rule.specs.World.{World, body, low}
use Rattle.fish_rule.specs.declared.view.Found.{Found}
use Rattle.fish_rule.specs.declared.view.Key.{Key}
use Rattle.fish_rule.specs.declared.view.Kind.TheVariants.{Mark}
use Rattle.fish_rule.specs.declared.view.View.{View}
use Rattle.fish_value.specs.declared.value.Value.{Value}

-- ---- the record of an entry

-- key entry c of a record, as its words spell it
pub record IsEntryAt (n c : ℕ) (w : World) : Type 0 where
  pub parts : BodyParts
  pub spells : Spells parts (record_words_at n w)
  pub key : KeyPart
  pub there : slice_get parts.keys c ≡ Some key
  pub says : SaysKey parts (record_words_at n w) c key
  pub bytes : value_in (record_words_at n w) c ≡ value_bytes key.value
  pub proper : IsProperValue key.value

-- an entry that words spell
pub entry_spelled : (n c : ℕ) (w : World) (p : BodyParts) (key : KeyPart) → Spells p (record_words_at n w)
    → slice_get p.keys c ≡ Some key → IsEntryAt n c w
entry_spelled n c w p key spells there =
    let within = slice_get_within p.keys c key there in
    let at : key ≡ get_or p.keys c key = sym (get_or_from_slice_get p.keys c key key there) in
    record {
      parts = p;
      spells = spells;
      key = key;
      there = there;
      says = spelled_key c key spells within at;
      bytes = value_in-key c key spells there;
      proper = (proper_at 0 p.keys c key spells.proper.keys within at).1;
    }

-- an entry that a walk gave
pub entry_given : {k : Key} {w : World} (r : Rule k w) (b n c p id : ℕ) → IsNodeIn b n c p id k w → IsEntryAt n c w
entry_given {k} {w} r b n c p id h =
    let t = stored_parts r n h.entry.stored in
    let counts = h.entry.is.counts in
    let keys = spelled_keys t.1.spells in
    let key = some_element t.0.keys c (omega arith) in
    entry_spelled n c w t.0 key.0 t.1.spells (slice_get_read t.0.keys (length t.0.keys) c key.0 refl (omega arith) key.1)

-- ---- values and their bytes

-- a value's words say its kind and its bytes
pub value_says : (n c : ℕ) (value : Value) (k : Key) (w : World) → HasValue n c value k w
    → SaysBytes n c (kind_code value) (value_bytes value) k w
unfolding entry_spelled
value_says n c value k w h =
    let e = entry_spelled n c w h.parts h.key h.spells h.there in
    record {
      kind_is = e.says.kind ∙ ap kind_code h.is;
      bytes_are = e.bytes ∙ ap value_bytes h.is;
    }

-- a whole number has 64 bits
abbrev pub IsWithin : Value → Type 0
IsWithin (kind.Bool b) = ⊤
IsWithin (kind.Int n) = IsTrue (fits_i64 n)
IsWithin (kind.Text s) = ⊤

-- a number whose size is below 2 ^ 63 has 64 bits
pub size_64 : (n : ℤ) → lib.Signed.mag n < 9223372036854775808 → SFits w64 n
size_64 n less = search rules

-- a number of 64 bits is within them
pub within_64 : (n : ℤ) → SFits w64 n → IsWithin (kind.Int n)
within_64 (pos n) fits = grind (arith, nat_tests)
within_64 (negsuc n) fits = grind (arith, nat_tests)

-- as bits it is its complement
pub bits_64 : (n : ℤ) → SFits w64 n → of_z w64 n ≡ complement n
bits_64 (pos n) fits = refl
bits_64 (negsuc n) fits = search rules

-- so the bytes of these bits are those of the number
pub bytes_64 : (n : ℤ) (bytes : List ℕ) → SFits w64 n
    → bytes ≡ to_le_bytes w64 (of_z w64 (to_z w64 (of_z w64 n))) → bytes ≡ value_bytes (kind.Int n)
bytes_64 n bytes fits is = is
    ∙ ap (λ (z : ℤ). to_le_bytes w64 (of_z w64 z)) (to_z-of_z w64 n fits)
    ∙ ap (to_le_bytes w64) (bits_64 n fits)

-- a value that an entry has, by its kind and its bytes
value_once : (v w : Value) → IsProperValue v → IsWithin w → kind_code v ≡ kind_code w → value_bytes v ≡ value_bytes w → v ≡ w
value_once (kind.Bool a) (kind.Bool b) proper within code bytes = same_value (kind.Bool a) (kind.Bool b) tt tt code bytes
value_once (kind.Int a) (kind.Int b) proper within code bytes = same_value (kind.Int a) (kind.Int b) proper within code bytes
value_once (kind.Text a) (kind.Text b) proper within code bytes = ap kind.Text bytes
value_once (kind.Bool a) (kind.Int b) proper within code bytes = absurd (omega arith)
value_once (kind.Bool a) (kind.Text b) proper within code bytes = absurd (omega arith)
value_once (kind.Int a) (kind.Bool b) proper within code bytes = absurd (omega arith)
value_once (kind.Int a) (kind.Text b) proper within code bytes = absurd (omega arith)
value_once (kind.Text a) (kind.Bool b) proper within code bytes = absurd (omega arith)
value_once (kind.Text a) (kind.Int b) proper within code bytes = absurd (omega arith)

-- an entry whose words say the kind and the bytes of a value has it
pub says_value : (n c : ℕ) (value : Value) (k : Key) (w : World) → IsWithin value → IsEntryAt n c w
    → SaysBytes n c (kind_code value) (value_bytes value) k w → HasValue n c value k w
says_value n c value k w within e h = record {
  parts = e.parts;
  spells = e.spells;
  key = e.key;
  there = e.there;
  is = value_once e.key.value value e.proper within (sym e.says.kind ∙ h.kind_is) (sym e.bytes ∙ h.bytes_are);
}

-- so it has it in every moment of a pass to which a walk gave the node
pub value_said : (v u : View) (node : Node) (value w : Value) (code : ℕ) (bytes : List ℕ) → IsNodeGiven v node → Learns v u
    → w ≡ value → IsWithin value → code ≡ kind_code value → bytes ≡ value_bytes value
    → Always u (SaysBytes node.number node.key code bytes) → Always u (HasValue node.number node.key w)
value_said v u node value w code bytes given learns is within code_is bytes_are says x on m r seat at =
    subst (λ (z : Value). HasValue node.number node.key z x.about m) (sym is)
    (says_value node.number node.key value x.about m within
    (entry_given r given.0 node.number node.key node.place node.id (given.1 x (learns_both v u x learns on) m r seat at))
    (subst (λ (z : ℕ × List ℕ). SaysBytes node.number node.key z.0 z.1 x.about m) (λ i. (code_is i, bytes_are i))
    (says x on m r seat at)))

-- and lacks it in each where its words don't say that
pub value_unsaid : (u : View) (n c : ℕ) (value w : Value) (code : ℕ) (bytes : List ℕ) → w ≡ value → code ≡ kind_code value
    → bytes ≡ value_bytes value → Always u (λ k m. ¬ SaysBytes n c code bytes k m) → Always u (λ k m. ¬ HasValue n c w k m)
value_unsaid u n c value w code bytes is code_is bytes_are lacks x on m r seat at has =
    lacks x on m r seat at (subst (λ (z : ℕ × List ℕ). SaysBytes n c z.0 z.1 x.about m)
    (λ i. (sym code_is i, sym bytes_are i))
    (value_says n c value x.about m (subst (λ (z : Value). HasValue n c z x.about m) is has)))

-- ---- the bytes of an entry, among those of its record

-- a byte of the value, from the record's first
byte_place : (e : ℕ → ℕ) (keys offset j : ℕ)
    → byte_at e (24 * keys + 8 + offset + j) ≡ byte_behind e (entry_at keys) (offset + j)
byte_place e keys offset j =
    let word : (24 * keys + 8 + offset + j) / 8 ≡ 1 + 3 * keys + (offset + j) / 8 = omega arith in
    let bit : (24 * keys + 8 + offset + j) % 8 ≡ (offset + j) % 8 = omega arith in
    λ i. e (word i) / 256 ^ bit i % 256

-- the bytes of the value are these where those of the record are
pub bytes_said : (n c size : ℕ) (bytes : List ℕ) (k : Key) (w : World) (keys offset : ℕ)
    → keys ≡ keys_of (record_words_at n w 0) → offset ≡ value_offset (record_words_at n w (entry_at c + 2))
    → value_size (record_words_at n w (entry_at c + 2)) ≡ length bytes
    → AreBytesIn n (24 * keys + 8 + offset) bytes (length bytes) k w → value_in (record_words_at n w) c ≡ bytes
bytes_said n c size bytes k w keys offset keys_is offset_is size_is are =
    let e : ℕ → ℕ = record_words_at n w in
    let byte = λ (j : ℕ). byte_behind e (entry_at (keys_of (e 0))) (value_offset (e (entry_at c + 2)) + j) in
    let count = length-map-range_with_len byte 0 (value_size (e (entry_at c + 2))) in
    ext_get_or 0 (value_in e c) bytes (count ∙ size_is) (λ j within.
    let less : j < value_size (e (entry_at c + 2)) = omega (arith, count) in
    let in_bytes : j < length bytes = omega arith in
    get_or-map-range_with_len byte 0 (value_size (e (entry_at c + 2))) j j 0 less (omega arith)
    ∙ sym (ap (λ (z : ℕ × ℕ). byte_behind e (entry_at z.0) (z.1 + j)) (λ i. (keys_is i, offset_is i)))
    ∙ sym (byte_place e keys offset j) ∙ are j in_bytes)

-- and the other way round
pub said_bytes : (n c size : ℕ) (bytes : List ℕ) (k : Key) (w : World) (keys offset : ℕ)
    → keys ≡ keys_of (record_words_at n w 0) → offset ≡ value_offset (record_words_at n w (entry_at c + 2))
    → value_in (record_words_at n w) c ≡ bytes → AreBytesIn n (24 * keys + 8 + offset) bytes (length bytes) k w
said_bytes n c size bytes k w keys offset keys_is offset_is is j within =
    let e : ℕ → ℕ = record_words_at n w in
    let byte = λ (i : ℕ). byte_behind e (entry_at (keys_of (e 0))) (value_offset (e (entry_at c + 2)) + i) in
    let count = length-map-range_with_len byte 0 (value_size (e (entry_at c + 2))) in
    let same = ap length is in
    byte_place e keys offset j
    ∙ ap (λ (z : ℕ × ℕ). byte_behind e (entry_at z.0) (z.1 + j)) (λ i. (keys_is i, offset_is i))
    ∙ sym (get_or-map-range_with_len byte 0 (value_size (e (entry_at c + 2))) j j 0 (omega (arith, count, same)) (omega arith))
    ∙ ap (λ (z : List ℕ). get_or z j 0) is

-- the size that the words say is that of the bytes
pub said_size : (n c : ℕ) (bytes : List ℕ) (w : World) → value_in (record_words_at n w) c ≡ bytes
    → value_size (record_words_at n w (entry_at c + 2)) ≡ length bytes
said_size n c bytes w is =
    let e : ℕ → ℕ = record_words_at n w in
    let byte = λ (i : ℕ). byte_behind e (entry_at (keys_of (e 0))) (value_offset (e (entry_at c + 2)) + i) in
    sym (length-map-range_with_len byte 0 (value_size (e (entry_at c + 2)))) ∙ ap length is

-- ---- reads

-- a word that was read of a record stands there in every later moment
pub word_read : (v : View) (f : Found) (i x : ℕ) → Among f v.learned.found → f.kind ≢ Mark
    → i < f.lines * 4 → Among (record { place = f.line * 4 + i; value = x }) v.learned.known
    → Always v (IsWordIn f.number i x)
word_read v f i x among words less known u learns w r seat at =
    let k : Key = u.about in
    let found = all_among (IsFound k w.count w.dir r.start) f u.learned.found (r.facts seat u at).found (learns.found f among) in
    let stands = word_known r f i x found less
    (all_among (IsFactKnown k w.count w.dir w.log r.start) _ u.learned.known (r.facts seat u at).known (learns.known _ known)) in
    let line : low (w.dir f.number) ≡ r.start f.number = (region_found r f found).0.line in
    ap (λ (z : ℕ). body w.log z i) line ∙ stands

-- ---- bytes of a word

-- bytes before a word and those in it are the record's
pub bytes_more : (n first : ℕ) (bytes : List ℕ) (done end word : ℕ) (k : Key) (w : World)
    → end ≤ done + 8 - (first + done) % 8 → AreBytesIn n first bytes done k w
    → IsWordIn n ((first + done) / 8) word k w → AreBytesOf word first bytes done end → AreBytesIn n first bytes end k w
bytes_more n first bytes done end word k w within before there are j less = pick (dec_lt j done)
  where
    pick : Dec (j < done) → byte_at (record_words_at n w) (first + j) ≡ get_or bytes j 0
    pick (yes h) = before j h
    pick (no h) =
        let same : (first + j) / 8 ≡ (first + done) / 8 = omega arith in
        ap (λ (z : ℕ). z / 256 ^ ((first + j) % 8) % 256) (ap (record_words_at n w) same ∙ there)
        ∙ sym (byte_of word ((first + j) % 8) (omega arith)) ∙ are j (omega arith) less

-- and if a byte of the word is another, they are not
pub bytes_none : (n first : ℕ) (bytes : List ℕ) (done end size word : ℕ) (k : Key) (w : World)
    → end ≤ done + 8 - (first + done) % 8 → end ≤ size → IsWordIn n ((first + done) / 8) word k w
    → ¬ AreBytesOf word first bytes done end → ¬ AreBytesIn n first bytes size k w
bytes_none n first bytes done end size word k w within upto there other are = other (λ j from less.
    let same : (first + j) / 8 ≡ (first + done) / 8 = omega arith in
    byte_of word ((first + j) % 8) (omega arith)
    ∙ sym (ap (λ (z : ℕ). z / 256 ^ ((first + j) % 8) % 256) (ap (record_words_at n w) same ∙ there)) ∙ are j (omega arith))
