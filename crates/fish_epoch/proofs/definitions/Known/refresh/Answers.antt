-- What was read are the definitions of the version.
use Rattle.std.proofs.Common.{sym, subst}
use Rattle.fish_catalog.specs.Listing.{IsListing}
use Rattle.fish_rule.specs.Passes.{view}
use Rattle.fish_epoch.proofs.Reading.{known_listing}
use Rattle.fish_epoch.proofs.definitions.Known.refresh.Goals as goal

pub parse_active-requires : goal.parse_active-requires
parse_active-requires c = subst IsListing (sym c.as_slice.ensures.value)
    (known_listing (view c.read_rows.new.pass) c.args.version c.in_ok-rows.rows.items c.read_rows.ensures.pass.stands
    c.in_ok-rows.ensures.rows)
