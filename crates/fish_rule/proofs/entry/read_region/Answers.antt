-- All words of the region are read, after those of before.
use Rattle.std.proofs.Common.{◌≡◌, ◌∙◌, refl, sym, inl, inr, ap, arith, subst, ℕ, ◌<◌, ◌≤◌, ◌+◌, ◌*◌, List, [], ◌∷◌}
use Rattle.std.proofs.Common.{◌++◌, length, get_or, Option, Some, None, is_some}
use Rattle.std.proofs.Common.{unwrap_or}
use Rattle.std.specs.Int.{from_bool}
use Rattle.fish_layout.specs.Cleared.{IsKeyWord}
use Rattle.fish_layout.specs.Header.{keys_of}
use Rattle.fish_rule.proofs.laws.Learning.{extends_both, extends_to_read, read_here}
use Rattle.fish_rule.proofs.laws.Steps.{found_law, header_law}
use Rattle.fish_rule.proofs.basics.RegionWords.{ArePut, put_head, put_known, put_more, put_rest, put_size}
use Rattle.fish_rule.proofs.basics.Context.{Among, View, view}
use Rattle.fish_rule.specs.within.Logs.{IsWordKnown}
use Rattle.fish_rule.proofs.entry.read_region.Goals as goal

-- a word that was told is known, unless it is the first of a key entry
told_word : (v u : View) (n keys line i : ℕ) (r : Option ℕ) (x : ℕ) → IsWordKnown v u n line i r → x ≡ unwrap_or r 0
    → keys ≡ n → ¬ IsKeyWord keys i → Among (record { place = line * 4 + i; value = x }) u.learned.known
told_word v u n keys line i None x told is same plain =
    absurd (plain (subst (λ (z : ℕ). IsKeyWord z i) (sym same) told.0))
told_word v u n keys line i (Some y) x told is same plain =
    subst (λ (z : ℕ). Among (record { place = line * 4 + i; value = z }) u.learned.known) (sym is) told.0

-- and it took at most one load
told_loads : (v u : View) (n line i : ℕ) (r : Option ℕ) → IsWordKnown v u n line i r
    → (u.clock.loads ≡ v.clock.loads + from_bool (is_some r)) × (from_bool (is_some r) ≤ 1)
told_loads v u n line i None told = (let e = told.1 in (omega arith, omega arith))
told_loads v u n line i (Some y) told = (let e = told.1 in (omega arith, omega arith))

pub read_word-header-requires-clause-view : goal.read_word-header-requires-clause-view
read_word-header-requires-clause-view c =
    let f = c.requires.found in
    let some_ = found_law (view c.args.pass.now) f.0 c.requires.pass.stands f.1 in
    (f.0, record { found = f.1; words = f.3; inside = omega arith; plain = inl refl }, f.2)

-- the region has a line, so there is room for the header
pub push_reserved-requires : goal.push_reserved-requires
push_reserved-requires c =
    let f = c.requires.found in
    let some_ = found_law (view c.args.pass.now) f.0 c.requires.pass.stands f.1 in
    let v = view c.read_word-header.new.pass in
    let told = c.read_word-header.ensures.view in
    let place : c.args.line * 4 + 0 ≡ f.0.line * 4 = (let line = f.2 in omega arith) in
    let read = subst (λ (z : ℕ). Among (record { place = z; value = c.read_word-header.result }) v.learned.known) place
    (read_here (view c.args.pass.now) v (c.args.line * 4 + 0) c.read_word-header.result told) in
    let extends = extends_to_read (view c.args.pass.now) v (c.args.line * 4 + 0) c.read_word-header.result told in
    let among = extends.learns.found f.0 f.1 in
    let lines = header_law v f.0 c.read_word-header.result c.read_word-header.ensures.pass.stands among f.3 read in
    let size = c.lines_in-size.ensures.value in
    let room = c.in_ok-reserve.ensures.ok in
    omega arith

pub loop-offset-init : goal.loop-offset-init
loop-offset-init c =
    let f = c.requires.found in
    let v = view c.read_word-header.new.pass in
    let header : ℕ = c.read_word-header.result in
    let told = c.read_word-header.ensures.view in
    let place : c.args.line * 4 + 0 ≡ c.args.line * 4 = omega arith in
    let known = subst (λ (z : ℕ). Among (record { place = z; value = header }) v.learned.known) place
    (read_here (view c.args.pass.now) v (c.args.line * 4 + 0) header told) in
    let extends = extends_to_read (view c.args.pass.now) v (c.args.line * 4 + 0) header told in
    let some_ = found_law (view c.args.pass.now) f.0 c.requires.pass.stands f.1 in
    let lines = header_law v f.0 header c.read_word-header.ensures.pass.stands (extends.learns.found f.0 f.1) f.3
    (subst (λ (z : ℕ). Among (record { place = z * 4; value = header }) v.learned.known) (sym f.2) known) in
    let size = c.lines_in-size.ensures.value in
    let ok = c.args.words.now.ok in
    let room = c.in_ok-reserve.ensures.ok in
    let same = c.reserve.ensures.len in
    let capacity = c.push_reserved.ensures.capacity in
    let loaded = ap (λ (z : View). z.clock.loads) told in
    record {
      of = c.read_word-header.ensures.pass;
      extends = extends;
      within = omega arith;
      room = omega arith;
      counted = omega arith;
      few = omega arith;
      put = put_head v c.args.line header c.args.words.now.items c.push_reserved.new.self.items
          (c.push_reserved.ensures.items ∙ ap (λ (z : List ℕ). z ++ header ∷ []) c.reserve.ensures.items) known;
    }

pub read_body_word-word-requires-clause-header : goal.read_body_word-word-requires-clause-header
read_body_word-word-requires-clause-header c =
    let inv = c.loop-offset.invariant in
    let from = c.loop-offset.auto.offset in (
      c.read_word-header.result,
      put_known (view c.loop-offset.pass) c.args.line c.read_word-header.result c.loop-offset.offset
          c.args.words.now.items c.loop-offset.words.items (omega arith) inv.put,
      c.from-keys.ensures ∙ c.keys_in.ensures.value,
    )

pub read_body_word-word-requires-clause-found : goal.read_body_word-word-requires-clause-found
read_body_word-word-requires-clause-found c =
    let inv = c.loop-offset.invariant in
    let from = c.loop-offset.auto.offset in
    let f = c.requires.found in
    let among = inv.extends.learns.found f.0 f.1 in
    let head = put_known (view c.loop-offset.pass) c.args.line c.read_word-header.result c.loop-offset.offset
    c.args.words.now.items c.loop-offset.words.items (omega arith) inv.put in
    let lines = header_law (view c.loop-offset.pass) f.0 c.read_word-header.result inv.of.stands among f.3
    (subst (λ (z : ℕ). Among (record { place = z * 4; value = c.read_word-header.result })
    (view c.loop-offset.pass).learned.known) (sym f.2) head) in
    let told = c.lines_in-size.ensures.value in
    let test = c.loop-offset-test.true in
    let least = c.min-behind.ensures in
    (f.0, among, f.2, f.3, omega arith)

pub push_reserved-requires-in-loop-offset : goal.push_reserved-requires-in-loop-offset
push_reserved-requires-in-loop-offset c =
    let inv = c.loop-offset.invariant in
    let room = inv.room in
    let ok = c.loop-offset.words.ok in
    let size = put_size inv.put in
    let test = c.loop-offset-test.true in
    let least = c.min-behind.ensures in
    omega arith

pub loop-offset-preserved : goal.loop-offset-preserved
loop-offset-preserved c =
    let inv = c.loop-offset.invariant in
    let from = c.loop-offset.auto.offset in
    let word = c.read_body_word-word.result in
    let told = c.read_body_word-word.ensures.read in
    let x : ℕ = c.unwrap_or.result in
    let keys : c.from-keys.result ≡ keys_of c.read_word-header.result = c.from-keys.ensures ∙ c.keys_in.ensures.value in
    let here = told_word (view c.loop-offset.pass) (view c.read_body_word-word.new.pass) c.from-keys.result
    (keys_of c.read_word-header.result) c.args.line c.loop-offset.offset word x told.told c.unwrap_or.ensures (sym keys) in
    let counts = told_loads (view c.loop-offset.pass) (view c.read_body_word-word.new.pass) c.from-keys.result
    c.args.line c.loop-offset.offset word told.told in
    let loaded = c.from-loads.ensures ∙ ap from_bool c.is_some.ensures in
    let counted = inv.counted in
    let few = inv.few in
    let room = inv.room in
    let test = c.loop-offset-test.true in
    let least = c.min-behind.ensures in
    let capacity = c.push_reserved-in-loop-offset.ensures.capacity in
    record {
      of = c.read_body_word-word.ensures.pass;
      extends = extends_both _ _ _ inv.extends told.extends;
      within = omega arith;
      room = omega arith;
      counted = omega arith;
      few = omega arith;
      put = subst (ArePut (view c.read_body_word-word.new.pass) c.args.line c.read_word-header.result
          (c.loop-offset.offset + 1) c.args.words.now.items) (sym c.push_reserved-in-loop-offset.ensures.items)
          (put_more (view c.loop-offset.pass) (view c.read_body_word-word.new.pass) c.args.line c.read_word-header.result
          c.loop-offset.offset x c.args.words.now.items c.loop-offset.words.items (omega arith) told.extends inv.put here);
    }

-- after the key entries, all words of the region may be read
pub read_rest-requires-clause-read : goal.read_rest-requires-clause-read
read_rest-requires-clause-read c =
    let inv = c.loop-offset.invariant in
    let from = c.loop-offset.auto.offset in
    let f = c.requires.found in
    let among = inv.extends.learns.found f.0 f.1 in
    let head = put_known (view c.loop-offset.pass) c.args.line c.read_word-header.result c.loop-offset.offset
    c.args.words.now.items c.loop-offset.words.items (omega arith) inv.put in
    let known = subst (λ (z : ℕ). Among (record { place = z * 4; value = c.read_word-header.result })
    (view c.loop-offset.pass).learned.known) (sym f.2) head in
    let lines = header_law (view c.loop-offset.pass) f.0 c.read_word-header.result inv.of.stands among f.3 known in
    let told = c.lines_in-size.ensures.value in
    let keys : c.from-keys.result ≡ keys_of c.read_word-header.result = c.from-keys.ensures ∙ c.keys_in.ensures.value in
    let least = c.min-behind.ensures in (
      f.0,
      f.2,
      λ i above below. record {
        found = among;
        words = f.3;
        inside = omega arith;
        plain = inr (c.read_word-header.result, known, λ key. let within = key.0 in absurd (omega arith));
      },
    )

pub read_rest-requires-clause-room : goal.read_rest-requires-clause-room
read_rest-requires-clause-room c =
    let inv = c.loop-offset.invariant in
    let room = inv.room in
    let ok = c.loop-offset.words.ok in
    let size = put_size inv.put in
    let within = inv.within in
    let from = c.loop-offset.auto.offset in
    let least = c.min-behind.ensures in
    let upto : c.loop-offset.offset ≤ c.min-behind.result = c.loop-offset.auto.offset-end (omega arith) in
    omega arith

pub returns-clause-extends : goal.returns-clause-extends
returns-clause-extends c = extends_both _ _ _ c.loop-offset.invariant.extends c.read_rest.ensures.extends

-- the words of the key entries, and those after them
pub returns-clause-words : goal.returns-clause-words
returns-clause-words c =
    let inv = c.loop-offset.invariant in
    let v = view c.loop-offset.pass in
    let u = view c.read_rest.new.pass in
    let from = c.loop-offset.auto.offset in
    let test = c.loop-offset-test.false in
    let header : ℕ = c.read_word-header.result in
    let before : List ℕ = c.args.words.now.items in
    let told = c.lines_in-size.ensures.value in
    let least = c.min-behind.ensures in
    let within = inv.within in
    let upto : c.loop-offset.offset ≤ c.min-behind.result = c.loop-offset.auto.offset-end (omega arith) in
    let rest = c.read_rest.ensures.words in
    let reached : c.loop-offset.offset ≡ c.min-behind.result = omega arith in
    let put : ArePut v c.args.line header c.min-behind.result before c.loop-offset.words.items =
    subst (λ (z : ℕ). ArePut v c.args.line header z before c.loop-offset.words.items) reached inv.put in
    let all = put_rest v u c.args.line header c.min-behind.result before c.loop-offset.words.items rest.0
    c.read_rest.new.words.items (omega arith) c.read_rest.ensures.extends put rest.1 rest.3 in
    let head = put_known v c.args.line header c.min-behind.result before c.loop-offset.words.items (omega arith) put in
    let long = all.long in
    let size = rest.2 in
    record {
      more = all.more;
      after_is = all.behind;
      words = λ f among line words.
          let lines = header_law v f header inv.of.stands (inv.extends.learns.found f among) words
          (subst (λ (z : ℕ). Among (record { place = z * 4; value = header }) v.learned.known) (sym line) head) in
          let some_ = found_law (view c.args.pass.now) f c.requires.pass.stands among in
          record {
            full = omega arith;
            read = subst (λ (z : ℕ × ℕ). (i : ℕ) → i < length all.more → ¬ IsKeyWord (keys_of z.0) i
                → Among (record { place = z.1 * 4 + i; value = get_or all.more i 0 }) u.learned.known)
                (λ j. (sym all.head j, sym line j)) all.read;
          };
    }
