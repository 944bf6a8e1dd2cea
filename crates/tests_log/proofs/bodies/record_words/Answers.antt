-- The words have the parts that were put into them.
use Rattle.std.proofs.Common.{◌≡◌, ℕ, ◌≤◌, List, [], length, refl, sym, ap, subst, arith, rules}
use Rattle.fish_layout.proofs.Outlines.{body_length}
use Rattle.fish_claim.proofs.Known.{knows_none}
use Rattle.fish_claim.specs.within.Fills.{IsStorable}
use Rattle.fish_layout.specs.Body.{IsBody}
use Rattle.fish_rule.proofs.laws.Keys.{no_keys}
use Rattle.fish_rule.specs.declared.view.Epoch.TheVariants.{Confirmed}
use Rattle.fish_rule.specs.declared.view.View.{View}
use Rattle.fish_layout.specs.declared.parts.BodyParts.{BodyParts}
use Rattle.fish_layout.specs.declared.parts.KeyPart.{KeyPart}
use Rattle.fish_psf.specs.Records.{is_record}
use Rattle.fish_value.specs.declared.field.Form.TheVariants.{Json}
use Rattle.tests_log.proofs.bodies.record_words.Goals as goal

pub returns : goal.returns
unfolding is_record
returns c =
    let text : List ℕ = c.in_ok-payload.payload in
    let p : BodyParts = record {
      form = Json;
      lane = c.args.lane;
      version = 0;
      number = c.args.number;
      keys = c.new.result;
      payload = text;
    } in
    let lane = c.requires.lane in
    let number = c.requires.number in
    let keys : p.keys ≡ [] = c.new.ensures in
    let bytes : c.as_bytes.result.now ≡ text = c.as_bytes.ensures.value in
    let long = c.if-as_bytes-gt524288.false in
    let is : IsBody p c.in_ok-body.body = record {
      proper = record {
        some_lane = omega arith;
        lane = omega arith;
        version = omega arith;
        number = number;
        keys = subst (Rattle.fish_layout.specs.Body.AreProperKeys 0) (sym keys) tt;
        few = (let none : length p.keys ≡ 0 = ap (λ (ks : List KeyPart). length ks) keys in omega arith);
        short = subst (λ (z : List ℕ). length z ≤ 524288) bytes (omega arith);
        text = subst Rattle.std.specs.Prelude.IsUtf8 bytes c.as_bytes.ensures.utf8;
      };
      is = c.in_ok-body.ensures;
    } in
    let size = body_length is in
    let len = c.len.ensures in
    let same = c.if-len-lines.false in
    let read = c.is_json.ensures (search rules) in
    let storable : (v : View) → v.lane ≡ c.args.lane → v.epoch ≡ Confirmed 0 → v.about.version ≡ 0
    → v.about.rows.value ≡ [] → IsStorable v c.args.number c.args.lines p =
    λ v own entered first none. record {
      lane_is = sym own;
      entered = entered;
      number_is = refl;
      lines_is = omega arith;
      reads = read;
      keys = no_keys p (knows_none v.about v.learned 0 (sym first) (omega arith) none) keys;
    } in
    (p, storable, keys, is)
