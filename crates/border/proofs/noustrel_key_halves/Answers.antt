-- `border::noustrel_key_halves` meets its contract: 9 where a size is wrong, else the keys of `client_half` and `server_half`, each
-- laid over a span of its size. Assumes nothing.
use Rattle.std.proofs.Common.{◌∙◌}
use Rattle.record.specs.KeyBlock.{client_keys, server_keys}
use Rattle.border.specs.Border.{answer_for}
use Rattle.border.proofs.Halves.{failed, passed, refused, kept, client-long, server-long, half_ok, keys_of_half, laid-mac, laid_enc}
use Rattle.border.proofs.Sizes.{halves_long}
use Rattle.border.proofs.noustrel_key_halves.Goals as goal

pub returns-then-not-halves_sizes : goal.returns-then-not-halves_sizes
returns-then-not-halves_sizes c =
    let w = failed c.halves_sizes.ensures c.if-not-halves_sizes.true in
    record {
      result = c.number.ensures ∙ refused w;
      client-mac = kept _ _ w;
      server-mac = kept _ _ w;
      client_enc = kept _ _ w;
      server_enc = kept _ _ w;
    }

pub unwrap-client-requires : goal.unwrap-client-requires
unwrap-client-requires c =
    let s = halves_long _ _ _ _ _ (passed c.halves_sizes.ensures c.if-not-halves_sizes.false) in
    half_ok c.client_half.result client_keys _ s.whole c.client_half.ensures

pub unwrap-server-requires : goal.unwrap-server-requires
unwrap-server-requires c =
    let s = halves_long _ _ _ _ _ (passed c.halves_sizes.ensures c.if-not-halves_sizes.false) in
    half_ok c.server_half.result server_keys _ s.whole c.server_half.ensures

pub returns : goal.returns
unfolding answer_for
returns c =
    let e = passed c.halves_sizes.ensures c.if-not-halves_sizes.false in
    let s = halves_long _ _ _ _ _ e in
    let client = c.put_keys.ensures in
    let server = c.put_keys-2.ensures in
    let client_keys_lem = keys_of_half client_keys _ s.whole (rw c.unwrap-client.ensures at c.client_half.ensures) in
    let server_keys_lem = keys_of_half server_keys _ s.whole (rw c.unwrap-server.ensures at c.server_half.ensures) in
    let client_sizes = client-long _ s.whole in
    let server_sizes = server-long _ s.whole in
    record {
      result = rw e;
      client-mac = rw e (client.mac ∙ laid-mac _ _ _ client_keys_lem client_sizes s.client.0);
      server-mac = rw e (server.mac ∙ laid-mac _ _ _ server_keys_lem server_sizes s.server.0);
      client_enc = rw e (client.enc ∙ laid_enc _ _ _ client_keys_lem client_sizes s.client.1);
      server_enc = rw e (server.enc ∙ laid_enc _ _ _ server_keys_lem server_sizes s.server.1);
    }
