-- `identity_text::hex_groups::put_group` meets its contract: the dash, and the digits behind it.
use Rattle.identity_text.proofs.Identities.{group_put}
use borrow.Author.Rules.{rules}
use Rattle.identity_text.proofs.hex_groups.put_group.Goals as goal

pub returns : goal.returns
returns c =
    record {
      put = group_put _ _ _ _ _ _ _ c.put_byte.ensures c.put_hex.ensures.put;
      value = search rules;
    }
