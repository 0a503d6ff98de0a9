-- Devices in two parts.
use Rattle.std.proofs.lemmas.Grind.{flat_map-append}

pub ruleset two_parts = (flat_map-append)
