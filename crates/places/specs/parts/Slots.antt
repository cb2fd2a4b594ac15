-- The slot of an identity, by which a walk over the places knows which identities it has to compare. Assumes nothing.
use Rattle.std.specs.Prelude.{ℕ, ◌+◌, ◌*◌, ◌%◌}
use Rattle.ledger.specs.declared.Identity.{Identity}

-- how many slots there are: a prime number, so that account and key count in full
abbrev pub slots : ℕ
slots = 509

-- account and key as one number (account * 10000 + key, of which 10000 is 329 past a multiple of 509), taken so that nothing wraps
unfoldable pub identity_slot : Identity → ℕ
identity_slot id = (id.account % slots * 329 + id.key % slots) % slots
