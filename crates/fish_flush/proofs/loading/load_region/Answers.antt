-- Each word that may be read is loaded to its place.
use Rattle.std.proofs.Common.{◌≡◌, ℕ, ◌+◌, ◌*◌, ◌≤◌, List, length, inl, inr, refl, sym, ◌∙◌, subst, arith}
use Rattle.std.proofs.lemmas.List.{length-set}
use Rattle.fish_flush.proofs.LoadedWords.{AreLoaded, loaded_all, loaded_head, loaded_header, loaded_more, loaded_past}
use Rattle.fish_layout.specs.Cleared.{IsKeyWord}
use Rattle.fish_layout.specs.Header.{keys_of}
use Rattle.fish_rule.proofs.laws.Learning.{extends_both, extends_to_read, read_here}
use Rattle.fish_rule.proofs.laws.Steps.{found_law}
use Rattle.fish_rule.specs.Logs.{Extends}
use Rattle.fish_rule.specs.Passes.{IsPassOf, view}
use Rattle.fish_rule.specs.declared.table.Log.{Log}
use Rattle.fish_rule.specs.declared.table.Pass.{Pass}
use Rattle.fish_rule.specs.declared.view.View.{View}
use Rattle.fish_flush.proofs.loading.load_region.Goals as goal
use Rattle.fish_flush.proofs.loading.load_region.Goals.{then-offset-ne1, else-offset-ne1}

-- so it is after each turn
abbrev IsKept : Log → View → Pass → List ℕ → ℕ → ℕ → ℕ → List ℕ → Type 0
IsKept log v pass before line header n words = record {
  of : IsPassOf log pass;
  extends : Extends v (view pass);
  size : length words ≡ length before;
  loaded : AreLoaded (view pass) line header n words;
}

pub read_word-header-requires-clause-view : goal.read_word-header-requires-clause-view
read_word-header-requires-clause-view c =
    let f = c.requires.found in
    let some_ = found_law (view c.args.pass.now) f.0 c.requires.pass.stands f.1 in
    (f.0, record { found = f.1; words = f.3; inside = omega arith; plain = inl refl }, f.2)

pub loop-offset-init : goal.loop-offset-init
loop-offset-init c =
    let v = view c.read_word-header.new.pass in
    let told = c.read_word-header.ensures.view in
    let room = c.requires.room in
    record {
      of = c.read_word-header.ensures.pass;
      extends = extends_to_read (view c.args.pass.now) v (c.args.line * 4 + 0) c.read_word-header.result told;
      size = length-set c.args.words.now 0 c.read_word-header.result;
      loaded = loaded_head v c.args.line c.read_word-header.result c.args.words.now (omega arith)
          (read_here (view c.args.pass.now) v (c.args.line * 4 + 0) c.read_word-header.result told);
    }

pub read_word-requires-clause-view : goal.read_word-requires-clause-view
read_word-requires-clause-view c =
    let i = c.loop-offset.invariant in
    let from = c.loop-offset.auto.offset in
    let v = view c.loop-offset.pass in
    let f = c.requires.found in
    let header : ℕ = c.read_word-header.result in
    let least = c.min-behind.ensures in
    let h = loaded_header (view c.args.pass.now) v f.0 c.args.line header c.loop-offset.offset c.loop-offset.words f.1 f.2 f.3 i.extends
    i.of.stands (omega arith) i.loaded in
    let lines = h.lines in
    let few = h.few in
    let size = c.lines_in-size.ensures.value in
    let keys : c.from.result ≡ keys_of header = c.from.ensures ∙ c.keys_in.ensures.value in
    let room = c.requires.room in
    let same = i.size in
    let test = c.loop-offset-test.true in
    let other = c.if-offset-ne1.true in
    (f.0, record { found = h.among; words = f.3; inside = omega arith; plain = inr (header, h.known, λ k. other k.1) }, f.2)

pub bounds-words-offset : goal.bounds-words-offset
bounds-words-offset c =
    let i = c.loop-offset.invariant in
    let from = c.loop-offset.auto.offset in
    let v = view c.loop-offset.pass in
    let f = c.requires.found in
    let header : ℕ = c.read_word-header.result in
    let least = c.min-behind.ensures in
    let h = loaded_header (view c.args.pass.now) v f.0 c.args.line header c.loop-offset.offset c.loop-offset.words f.1 f.2 f.3 i.extends
    i.of.stands (omega arith) i.loaded in
    let lines = h.lines in
    let few = h.few in
    let size = c.lines_in-size.ensures.value in
    let keys : c.from.result ≡ keys_of header = c.from.ensures ∙ c.keys_in.ensures.value in
    let room = c.requires.room in
    let same = i.size in
    let test = c.loop-offset-test.true in
    omega arith

pub loop-offset-preserved : goal.loop-offset-preserved
loop-offset-preserved c =
    let i = c.loop-offset.invariant in
    let from = c.loop-offset.auto.offset in
    let v = view c.loop-offset.pass in
    let f = c.requires.found in
    let header : ℕ = c.read_word-header.result in
    let least = c.min-behind.ensures in
    let h = loaded_header (view c.args.pass.now) v f.0 c.args.line header c.loop-offset.offset c.loop-offset.words f.1 f.2 f.3 i.extends
    i.of.stands (omega arith) i.loaded in
    let lines = h.lines in
    let few = h.few in
    let size = c.lines_in-size.ensures.value in
    let keys : c.from.result ≡ keys_of header = c.from.ensures ∙ c.keys_in.ensures.value in
    let room = c.requires.room in
    let same = i.size in
    let test = c.loop-offset-test.true in
    elim c.if-offset-ne1.branch [
      | then-offset-ne1 w ↦ (
          let u = view w.read_word.new.pass in
          let told = w.read_word.ensures.view in
          let more = extends_to_read v u (c.args.line * 4 + c.loop-offset.offset) w.read_word.result told in
          subst (λ (z : Pass × List ℕ). IsKept c.args.log.now (view c.args.pass.now) z.0 c.args.words.now c.args.line header
          (c.loop-offset.offset + 1) z.1) (λ j. (sym w.pass-is j, sym w.words-is j)) (record {
            of = w.read_word.ensures.pass;
            extends = extends_both _ _ _ i.extends more;
            size = length-set c.loop-offset.words c.loop-offset.offset w.read_word.result ∙ same;
            loaded = loaded_more v u c.args.line header c.loop-offset.offset w.read_word.result c.loop-offset.words (omega arith)
                (omega arith) more i.loaded (read_here v u (c.args.line * 4 + c.loop-offset.offset) w.read_word.result told);
          })
          )
      | else-offset-ne1 w ↦ (
          let first = w.if-offset-ne1.false in
          subst (λ (z : Pass × List ℕ). IsKept c.args.log.now (view c.args.pass.now) z.0 c.args.words.now c.args.line header
          (c.loop-offset.offset + 1) z.1) (λ j. (sym w.pass-is j, sym w.words-is j)) (record {
            of = i.of;
            extends = i.extends;
            size = same;
            loaded = loaded_past v c.args.line header c.loop-offset.offset c.loop-offset.words (omega arith, omega arith) i.loaded;
          })
          )
    ]

-- after the key entries, all words may be read
pub read_word-requires-in-loop-offset-2-clause-view : goal.read_word-requires-in-loop-offset-2-clause-view
read_word-requires-in-loop-offset-2-clause-view c =
    let i = c.loop-offset-2.invariant in
    let from = c.loop-offset-2.auto.offset in
    let v = view c.loop-offset-2.pass in
    let f = c.requires.found in
    let header : ℕ = c.read_word-header.result in
    let least = c.min-behind.ensures in
    let h = loaded_header (view c.args.pass.now) v f.0 c.args.line header c.loop-offset-2.offset c.loop-offset-2.words f.1 f.2 f.3 i.extends
    i.of.stands (omega arith) i.loaded in
    let lines = h.lines in
    let few = h.few in
    let size = c.lines_in-size.ensures.value in
    let keys : c.from.result ≡ keys_of header = c.from.ensures ∙ c.keys_in.ensures.value in
    let room = c.requires.room in
    let same = i.size in
    let test = c.loop-offset-2-test.true in
    let plain : ¬ IsKeyWord (keys_of header) c.loop-offset-2.offset = λ k. (let within = k.0 in absurd (omega arith)) in
    (f.0, record { found = h.among; words = f.3; inside = omega arith; plain = inr (header, h.known, plain) }, f.2)

pub bounds-words-offset-in-loop-offset-2 : goal.bounds-words-offset-in-loop-offset-2
bounds-words-offset-in-loop-offset-2 c =
    let i = c.loop-offset-2.invariant in
    let from = c.loop-offset-2.auto.offset in
    let v = view c.loop-offset-2.pass in
    let f = c.requires.found in
    let header : ℕ = c.read_word-header.result in
    let least = c.min-behind.ensures in
    let h = loaded_header (view c.args.pass.now) v f.0 c.args.line header c.loop-offset-2.offset c.loop-offset-2.words f.1 f.2 f.3 i.extends
    i.of.stands (omega arith) i.loaded in
    let lines = h.lines in
    let few = h.few in
    let size = c.lines_in-size.ensures.value in
    let keys : c.from.result ≡ keys_of header = c.from.ensures ∙ c.keys_in.ensures.value in
    let room = c.requires.room in
    let same = i.size in
    let test = c.loop-offset-2-test.true in
    omega arith

pub loop-offset-2-preserved : goal.loop-offset-2-preserved
loop-offset-2-preserved c =
    let i = c.loop-offset-2.invariant in
    let from = c.loop-offset-2.auto.offset in
    let v = view c.loop-offset-2.pass in
    let f = c.requires.found in
    let header : ℕ = c.read_word-header.result in
    let least = c.min-behind.ensures in
    let h = loaded_header (view c.args.pass.now) v f.0 c.args.line header c.loop-offset-2.offset c.loop-offset-2.words f.1 f.2 f.3 i.extends
    i.of.stands (omega arith) i.loaded in
    let lines = h.lines in
    let few = h.few in
    let size = c.lines_in-size.ensures.value in
    let keys : c.from.result ≡ keys_of header = c.from.ensures ∙ c.keys_in.ensures.value in
    let room = c.requires.room in
    let same = i.size in
    let test = c.loop-offset-2-test.true in
    let x : ℕ = c.read_word-in-loop-offset-2.result in
    let u = view c.read_word-in-loop-offset-2.new.pass in
    let told = c.read_word-in-loop-offset-2.ensures.view in
    let more = extends_to_read v u (c.args.line * 4 + c.loop-offset-2.offset) x told in
    record {
      of = c.read_word-in-loop-offset-2.ensures.pass;
      extends = extends_both _ _ _ i.extends more;
      size = length-set c.loop-offset-2.words c.loop-offset-2.offset x ∙ same;
      loaded = loaded_more v u c.args.line header c.loop-offset-2.offset x c.loop-offset-2.words (omega arith) (omega arith) more
          i.loaded (read_here v u (c.args.line * 4 + c.loop-offset-2.offset) x told);
    }

pub returns-clause-words : goal.returns-clause-words
returns-clause-words c = λ f among line plain.
    let before = c.loop-offset.invariant in
    let start = c.loop-offset.auto.offset in
    let top = loaded_header (view c.args.pass.now) (view c.loop-offset.pass) c.requires.found.0 c.args.line c.read_word-header.result
    c.loop-offset.offset c.loop-offset.words c.requires.found.1 c.requires.found.2 c.requires.found.3 before.extends before.of.stands
    (omega arith) before.loaded in
    let told = top.lines in
    let some_ = found_law (view c.args.pass.now) c.requires.found.0 c.requires.pass.stands c.requires.found.1 in
    let all_lines = c.lines_in-size.ensures.value in
    let least = c.min-behind.ensures in
    let behind : 1 ≤ c.min-behind.result = omega arith in
    let i = c.loop-offset-2.invariant in
    let from = c.loop-offset-2.auto.offset in
    let test = c.loop-offset-2-test.false in
    let v = view c.loop-offset-2.pass in
    let header : ℕ = c.read_word-header.result in
    let h = loaded_header (view c.args.pass.now) v f c.args.line header c.loop-offset-2.offset c.loop-offset-2.words among line plain
    i.extends i.of.stands (omega arith) i.loaded in
    let many = found_law v f i.of.stands h.among in
    let few = h.few in
    let lines = h.lines in
    let size = c.lines_in-size.ensures.value in
    let room = c.requires.room in
    let same = i.size in
    let upto = c.loop-offset-2.auto.offset-end (omega arith) in
    let all : c.loop-offset-2.offset ≡ c.lines_in-size.result * 4 = omega arith in
    loaded_all v f c.args.line header (c.lines_in-size.result * 4) c.loop-offset-2.words (omega arith) (sym line) (omega arith)
    (omega arith)
    (subst (λ (z : ℕ). AreLoaded v c.args.line header z c.loop-offset-2.words) all i.loaded)

pub returns-clause-within : goal.returns-clause-within
returns-clause-within c =
    let before = c.loop-offset.invariant in
    let start = c.loop-offset.auto.offset in
    let top = loaded_header (view c.args.pass.now) (view c.loop-offset.pass) c.requires.found.0 c.args.line c.read_word-header.result
    c.loop-offset.offset c.loop-offset.words c.requires.found.1 c.requires.found.2 c.requires.found.3 before.extends before.of.stands
    (omega arith) before.loaded in
    let told = top.lines in
    let some_ = found_law (view c.args.pass.now) c.requires.found.0 c.requires.pass.stands c.requires.found.1 in
    let all_lines = c.lines_in-size.ensures.value in
    let least = c.min-behind.ensures in
    let behind : 1 ≤ c.min-behind.result = omega arith in
    let i = c.loop-offset-2.invariant in
    let from = c.loop-offset-2.auto.offset in
    let v = view c.loop-offset-2.pass in
    let f = c.requires.found in
    let header : ℕ = c.read_word-header.result in
    let least = c.min-behind.ensures in
    let h = loaded_header (view c.args.pass.now) v f.0 c.args.line header c.loop-offset-2.offset c.loop-offset-2.words f.1 f.2 f.3 i.extends
    i.of.stands (omega arith) i.loaded in
    let lines = h.lines in
    let few = h.few in
    let size = c.lines_in-size.ensures.value in
    let keys : c.from.result ≡ keys_of header = c.from.ensures ∙ c.keys_in.ensures.value in
    let room = c.requires.room in
    let same = i.size in
    omega arith
