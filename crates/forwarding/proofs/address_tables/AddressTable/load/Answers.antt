use Rattle.std.proofs.Common.{rules}
use Rattle.forwarding.specs.Searches.{held_fit}
use Rattle.forwarding.proofs.address_tables.AddressTable.load.Goals as goal

pub unwrap-requires : goal.unwrap-requires
unwrap-requires c =
    let room = held_fit c.args.rows.now c.in_default.ensures in
    search rules
