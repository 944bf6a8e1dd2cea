-- Which words of a record a pass may read to compare a value, and what they say.
use Rattle.std.proofs.Common.{◌≡◌, ◌≢◌, ℕ, ◌+◌, ◌*◌, ◌/◌, ◌<◌, ◌≤◌, zero, suc, List, length, sym, refl, ap, ◌∙◌}
use Rattle.std.proofs.Common.{subst, ◌⊎◌, ⊎_elim, inl, inr, arith, take}
use Rattle.fish_chain.proofs.Values.{IsEntryAt, bytes_said, entry_given, said_bytes, said_size}
use Rattle.fish_chain.specs.Values.{IsNodeGiven, record_words_at}
use Rattle.fish_chain.specs.within.Values.{AreBytesIn, HasBytes, IsWordIn, SaysBytes}
use Rattle.fish_chain.specs.declared.walk.Node.{Node}
use Rattle.fish_layout.proofs.Entries.{values_within}
use Rattle.fish_layout.proofs.Sizes.{few_bytes, length-words_after_head}
use Rattle.fish_layout.proofs.Spelled.{spelled_keys, spelled_lines}
use Rattle.fish_layout.specs.Body.{values_of}
use Rattle.fish_layout.specs.Bytes.{words_for}
use Rattle.fish_layout.specs.Cleared.{IsKeyWord, entry_at}
use Rattle.fish_layout.specs.Entry.{value_kind, value_offset, value_size}
use Rattle.fish_layout.specs.Header.{keys_of, lines_of}
use Rattle.fish_layout.specs.Values.{value_bytes}
use Rattle.std.proofs.lemmas.Option.{get_or_from_slice_get, slice_get_within}
use Rattle.fish_rule.proofs.laws.Lists.{all_among}
use Rattle.fish_rule.proofs.laws.Steps.{found_law}
use Rattle.fish_rule.proofs.laws.Regions.{lines_found, region_found}
use Rattle.fish_rule.proofs.laws.Learning.{extends_look, learns_both, learns_self}
use Rattle.fish_rule.proofs.laws.Moments.{stored_above}
use Rattle.fish_rule.specs.Facts.{IsFound}
use Rattle.fish_rule.proofs.laws.ChainFacts.{always_later}
use Rattle.fish_rule.specs.Logs.{Extends, Learns}
use Rattle.fish_rule.specs.LoadSteps.{CanLookAt, CanReadWord, after_look_at, kind_told}
use Rattle.fish_rule.specs.Regions.{code}
use Rattle.fish_rule.specs.Table.{Sees, IsOfMoment}
use Rattle.fish_rule.specs.Views.{Among}
use Rattle.fish_rule.specs.ChainFacts.{Always}
use Rattle.fish_rule.specs.World.{World, body, high, low}
use Rattle.fish_rule.specs.declared.view.Found.{Found}
use Rattle.fish_rule.specs.declared.view.Key.{Key}
use Rattle.fish_rule.specs.declared.view.Kind.TheVariants.{Mark, Stored}
use Rattle.fish_rule.specs.declared.view.View.{View}

-- ---- the look

-- the number of a node that a walk gave may be looked at
pub given_look : (v : View) (node : Node) → IsOfMoment v → IsNodeGiven v node → node.number < v.learned.count → CanLookAt v node.number
given_look v node s given below = record {
  above = stored_above s.rule node.number (given.1 v (learns_self v) s.moment s.rule s.seat s.at).entry.stored;
  below = below;
}

-- a word that tells of a record
stored_word : (x : ℕ) → high x ≡ code Stored → x ≢ 0
unfolding high
stored_word x is e = (let h : high 0 ≡ code Stored = subst (λ (z : ℕ). high z ≡ code Stored) e is in absurd (omega arith))

-- the look finds its record
pub given_found : (v u : View) (node : Node) (lines x : ℕ) → u ≡ after_look_at v node.number lines x → IsNodeGiven v node
    → Sees v node.number x → (f : Found) × Among f u.learned.found × (f.number ≡ node.number) × (f.line ≡ low x)
    × (f.kind ≡ Stored)
given_found v u node lines x to given sees =
    let stored : high x ≡ code Stored = ap high sees.is
    ∙ (given.1 v (learns_self v) sees.moment sees.rule sees.seat sees.at).entry.stored in
    by x stored (stored_word x stored) to
  where
    by : (y : ℕ) → high y ≡ code Stored → y ≢ 0 → u ≡ after_look_at v node.number lines y
        → (f : Found) × Among f u.learned.found × (f.number ≡ node.number) × (f.line ≡ low y) × (f.kind ≡ Stored)
    by zero is some to = absurd (some refl)
    by (suc y) is some to =
        let f : Found = record { number = node.number; kind = kind_told (high (suc y)); line = low (suc y); lines = lines } in (
          f,
          subst (λ (z : View). Among f z.learned.found) (sym to) (inl refl),
          refl,
          refl,
          subst (λ (z : ℕ). kind_told z ≡ Stored) (sym is) refl,
        )

-- ---- the record

-- a record is no mark
pub no_mark : (f : Found) → f.kind ≡ Stored → f.kind ≢ Mark
no_mark f is e = (let bad : Stored ≡ Mark = sym is ∙ e in cc)

-- how a record is divided whose region was found: its key entries, and the values after them
pub record IsDivided (n c : ℕ) (f : Found) (w : World) : Type 0 where
  pub entry : IsEntryAt n c w
  pub counts : c < length entry.parts.keys
  pub lines : 1 ≤ f.lines
  pub room : 1 + 3 * length entry.parts.keys + words_for (length (values_of entry.parts.keys)) ≤ f.lines * 4
  pub value : length (values_of (take c entry.parts.keys)) + length (value_bytes entry.key.value)
      ≤ length (values_of entry.parts.keys)
  pub small : length (value_bytes entry.key.value) ≤ 256

-- it is so of a node's record, in the moment in which the pass stands
pub given_divided : (v : View) (node : Node) (f : Found) → (s : IsOfMoment v) → IsNodeGiven v node → Among f v.learned.found
    → f.number ≡ node.number → f.kind ≡ Stored → IsDivided node.number node.key f s.moment
given_divided v node f s given among number is =
    let w : World = s.moment in
    let found = all_among (IsFound v.about w.count w.dir s.rule.start) f v.learned.found
    (s.rule.facts s.seat v s.at).found among in
    let h = given.1 v (learns_self v) w s.rule s.seat s.at in
    let e = entry_given s.rule given.0 node.number node.key node.place node.id h in
    let p = e.parts in
    let line : low (w.dir f.number) ≡ s.rule.start f.number = (region_found s.rule f found).0.line in
    let same : record_words_at node.number w 0 ≡ body w.log (s.rule.start f.number) 0 =
    ap (λ (z : ℕ). record_words_at z w 0) (sym number) ∙ ap (λ (z : ℕ). body w.log z 0) line in
    let lines = sym (spelled_lines e.spells) ∙ ap lines_of same ∙ lines_found s.rule f found (no_mark f is) in
    let within = slice_get_within p.keys node.key e.key e.there in
    let at = sym (get_or_from_slice_get p.keys node.key e.key e.key e.there) in
    record {
      entry = e;
      counts = within;
      lines = found_law v f s among;
      room = omega (arith, length-words_after_head p);
      value = values_within p.keys node.key e.key within at;
      small = few_bytes e.key.value e.proper;
    }

-- ---- what may be read

-- the word of a byte after the key entries may be read
pub read_within : (v u : View) (n line first size done : ℕ) → Learns v u → HasBytes v n line first size → done < size
    → (f : Found) × CanReadWord u f ((first + done) / 8) × (f.line ≡ line) × (f.number ≡ n)
read_within v u n line first size done learns h less =
    let behind = h.behind in
    let within = h.within in (
      h.found,
      record {
        found = learns.found h.found h.among;
        words = h.words;
        inside = omega arith;
        plain = inr (
          h.header,
          subst (λ (z : ℕ). Among (record { place = z * 4; value = h.header }) u.learned.known) (sym h.line_is)
              (learns.known _ h.read),
          λ (key : IsKeyWord (keys_of h.header) ((first + done) / 8)). let few = key.0 in absurd (omega arith),
        );
      },
      h.line_is,
      h.number_is,
    )

-- the header of a record may be read
pub read_header : (v : View) (f : Found) (n line : ℕ) → IsOfMoment v → Among f v.learned.found → f.number ≡ n → f.line ≡ line
    → f.kind ≡ Stored → (f : Found) × CanReadWord v f 0 × (f.line ≡ line) × (f.number ≡ n)
read_header v f n line s among number at is =
    let some_ = found_law v f s among in (
      f,
      record { found = among; words = no_mark f is; inside = omega arith; plain = inl refl },
      at,
      number,
    )

-- the third word of a key entry may be read, once the header is
pub read_third : (v : View) (f : Found) (w : World) (n c line header : ℕ) → IsDivided n c f w → Among f v.learned.found
    → f.number ≡ n → f.line ≡ line → f.kind ≡ Stored → Among (record { place = line * 4; value = header }) v.learned.known
    → (f : Found) × CanReadWord v f (3 * c + 3) × (f.line ≡ line) × (f.number ≡ n)
read_third v f w n c line header h among number at is known =
    let counts = h.counts in
    let room = h.room in (
      f,
      record {
        found = among;
        words = no_mark f is;
        inside = omega arith;
        plain = inr (
          header,
          subst (λ (z : ℕ). Among (record { place = z * 4; value = header }) v.learned.known) (sym at) known,
          λ (key : IsKeyWord (keys_of header) (3 * c + 3)). let third = key.1 in absurd (omega arith),
        );
      },
      at,
      number,
    )

-- the words of a value may be read, once header and third word are
pub read_value : (v : View) (f : Found) (w : World) (k : Key) (n c line header third size : ℕ) → IsDivided n c f w
    → Among f v.learned.found → f.number ≡ n → f.line ≡ line → f.kind ≡ Stored
    → Among (record { place = line * 4; value = header }) v.learned.known → IsWordIn n 0 header k w
    → IsWordIn n (3 * c + 3) third k w → value_size third ≡ size
    → HasBytes v n line (24 * keys_of header + 8 + value_offset third) size
read_value v f w k n c line header third size h among number at is known first second size_is =
    let e = h.entry in
    let keys : keys_of header ≡ length e.parts.keys = ap keys_of (sym first) ∙ spelled_keys e.spells in
    let place : 3 * c + 3 ≡ entry_at c + 2 = omega arith in
    let word : third ≡ record_words_at n w (entry_at c + 2) = sym second ∙ ap (record_words_at n w) place in
    let offset : value_offset third ≡ length (values_of (take c e.parts.keys)) = ap value_offset word ∙ e.says.offset in
    let bytes : size ≡ length (value_bytes e.key.value) = sym size_is ∙ ap value_size word ∙ e.says.size in
    let room = h.room in
    let value = h.value in
    record {
      found = f;
      among = among;
      number_is = number;
      line_is = at;
      words = no_mark f is;
      header = header;
      read = known;
      behind = omega arith;
      within = omega arith;
    }

-- a value has at most 256 bytes
pub few_said : (f : Found) (w : World) (k : Key) (n c third size : ℕ) → IsDivided n c f w → IsWordIn n (3 * c + 3) third k w
    → value_size third ≡ size → size ≤ 256
few_said f w k n c third size h second size_is =
    let e = h.entry in
    let place : 3 * c + 3 ≡ entry_at c + 2 = omega arith in
    let bytes : size ≡ length (value_bytes e.key.value) =
    sym size_is ∙ ap value_size (sym second ∙ ap (record_words_at n w) place) ∙ e.says.size in
    let small = h.small in omega arith

-- ---- one comparison

-- a node's record was found at a line, and its header read
pub record IsHeaded (v : View) (node : Node) (line header : ℕ) : Type 0 where
  pub given : IsNodeGiven v node
  pub found : Found
  pub among : Among found v.learned.found
  pub number : found.number ≡ node.number
  pub at : found.line ≡ line
  pub is : found.kind ≡ Stored
  pub known : Among (record { place = line * 4; value = header }) v.learned.known

-- a view only learns by a look
pub looked : (v u : View) (n lines x : ℕ) → u ≡ after_look_at v n lines x → Extends v u
looked v u n lines x e = subst (Extends v) (sym e) (extends_look v n lines x)

-- what a walk gave stays given
pub given_later : (v u : View) (node : Node) → Learns v u → IsNodeGiven v node → IsNodeGiven u node
given_later v u node learns given = (given.0, always_later v u _ learns given.1)

-- after the look and the load of the header
pub headed : (v u t : View) (node : Node) (lines x line header : ℕ) → IsNodeGiven v node → u ≡ after_look_at v node.number lines x
    → Sees v node.number x → line ≡ low x → Learns u t
    → Among (record { place = line * 4 + 0; value = header }) t.learned.known → IsHeaded t node line header
headed v u t node lines x line header given to sees at learns known =
    let f = given_found v u node lines x to given sees in
    let e : line * 4 + 0 ≡ line * 4 = omega arith in
    record {
      given = given_later v t node (learns_both v u t (looked v u node.number lines x to).learns learns) given;
      found = f.0;
      among = learns.found f.0 f.1;
      number = f.2;
      at = f.3 ∙ sym at;
      is = f.4;
      known = subst (λ (z : ℕ). Among (record { place = z; value = header }) t.learned.known) e known;
    }

-- and later
pub headed_later : (v u : View) (node : Node) (line header : ℕ) → Learns v u → IsHeaded v node line header
    → IsHeaded u node line header
headed_later v u node line header learns h = record {
  given = given_later v u node learns h.given;
  found = h.found;
  among = learns.found h.found h.among;
  number = h.number;
  at = h.at;
  is = h.is;
  known = learns.known _ h.known;
}

-- and after the load of the third word
pub headed_on : (v u t s : View) (node : Node) (number lines x line header : ℕ) → IsNodeGiven v node → number ≡ node.number
    → u ≡ after_look_at v number lines x → Sees v number x → line ≡ low x → Learns u t
    → Among (record { place = line * 4 + 0; value = header }) t.learned.known → Learns t s → IsHeaded s node line header
headed_on v u t s node number lines x line header given is to sees at learns known on =
    headed_later t s node line header on (headed v u t node lines x line header given
    (subst (λ (z : ℕ). u ≡ after_look_at v z lines x) is to) (subst (λ (z : ℕ). Sees v z x) is sees) at learns known)

-- it is divided so in the moment in which the pass stands
pub headed_divided : (v : View) (node : Node) (line header : ℕ) (s : IsOfMoment v) (h : IsHeaded v node line header)
    → IsDivided node.number node.key h.found s.moment
headed_divided v node line header s h = given_divided v node h.found s h.given h.among h.number h.is

-- the third word of its entry may be read
pub third_may : (v : View) (node : Node) (line header : ℕ) → IsOfMoment v → IsHeaded v node line header
    → (f : Found) × CanReadWord v f (3 * node.key + 3) × (f.line ≡ line) × (f.number ≡ node.number)
third_may v node line header s h = read_third v h.found s.moment node.number node.key line header
    (headed_divided v node line header s h) h.among h.number h.at h.is h.known

-- and its value's words
pub value_may : (v : View) (node : Node) (line header third size : ℕ) → IsOfMoment v → IsHeaded v node line header
    → Always v (IsWordIn node.number 0 header) → Always v (IsWordIn node.number (3 * node.key + 3) third)
    → value_size third ≡ size → HasBytes v node.number line (24 * keys_of header + 8 + value_offset third) size
value_may v node line header third size s h first second is = read_value v h.found s.moment v.about node.number node.key
    line header third size (headed_divided v node line header s h) h.among h.number h.at h.is h.known
    (first v (learns_self v) s.moment s.rule s.seat s.at) (second v (learns_self v) s.moment s.rule s.seat s.at) is

-- which has at most 256 bytes
pub value_few : (v : View) (node : Node) (line header third size : ℕ) → IsOfMoment v → IsHeaded v node line header
    → Always v (IsWordIn node.number (3 * node.key + 3) third) → value_size third ≡ size → size ≤ 256
value_few v node line header third size s h second is = few_said h.found s.moment v.about node.number node.key third size
    (headed_divided v node line header s h) (second v (learns_self v) s.moment s.rule s.seat s.at) is

-- the third word in another spelling of its place
third_is : (n c third : ℕ) (k : Key) (w : World) → IsWordIn n (3 * c + 3) third k w → third ≡ record_words_at n w (entry_at c + 2)
third_is n c third k w is = (let place : 3 * c + 3 ≡ entry_at c + 2 = omega arith in sym is ∙ ap (record_words_at n w) place)

-- where the kind or the length differs, the entry's words don't say the bytes
pub says_other : (v : View) (n c third kind : ℕ) (bytes : List ℕ) → Always v (IsWordIn n (3 * c + 3) third)
    → (value_kind third ≢ kind) ⊎ (value_size third ≢ length bytes) → Always v (λ k w. ¬ SaysBytes n c kind bytes k w)
says_other v n c third kind bytes second other u learns w r seat at says =
    let word = third_is n c third u.about w (second u learns w r seat at) in
    ⊎_elim (λ (differs : value_kind third ≢ kind). differs (ap value_kind word ∙ says.kind_is))
    (λ (differs : value_size third ≢ length bytes). differs (ap value_size word ∙ said_size n c bytes w says.bytes_are)) other

-- where both are the same, they do exactly if the bytes are there
pub says_same : (v : View) (n c header third kind : ℕ) (bytes : List ℕ) → Always v (IsWordIn n 0 header)
    → Always v (IsWordIn n (3 * c + 3) third) → value_kind third ≡ kind → value_size third ≡ length bytes
    → Always v (AreBytesIn n (24 * keys_of header + 8 + value_offset third) bytes (length bytes))
    → Always v (SaysBytes n c kind bytes)
says_same v n c header third kind bytes first second kind_is size_is are u learns w r seat at =
    let head = first u learns w r seat at in
    let word = third_is n c third u.about w (second u learns w r seat at) in
    record {
      kind_is = ap value_kind (sym word) ∙ kind_is;
      bytes_are = bytes_said n c 0 bytes u.about w (keys_of header) (value_offset third) (ap keys_of (sym head))
          (ap value_offset word) (ap value_size (sym word) ∙ size_is) (are u learns w r seat at);
    }

pub says_none : (v : View) (n c header third kind : ℕ) (bytes : List ℕ) → Always v (IsWordIn n 0 header)
    → Always v (IsWordIn n (3 * c + 3) third)
    → Always v (λ k w. ¬ AreBytesIn n (24 * keys_of header + 8 + value_offset third) bytes (length bytes) k w)
    → Always v (λ k w. ¬ SaysBytes n c kind bytes k w)
says_none v n c header third kind bytes first second other u learns w r seat at says =
    let head = first u learns w r seat at in
    let word = third_is n c third u.about w (second u learns w r seat at) in
    other u learns w r seat at (said_bytes n c 0 bytes u.about w (keys_of header) (value_offset third)
    (ap keys_of (sym head)) (ap value_offset word) says.bytes_are)
