-- Each promise leaves one outcome: the answer and the output. Assumes nothing.
use mathlib.Core.List.{List}
use mathlib.Core.Path.{◌≡◌, sym, ◌∙◌}
use Prim.Native.Nat.{ℕ}
use Rattle.key_schedule.specs.declared.TlcpRole.{TlcpRole}
use Rattle.key_schedule.specs.Promise.{MasterSecret, KeyBlock, Finished}

-- `derive_master_secret`
pub MasterSecret-one_outcome : {preMaster client server out x y : List ℕ} {a b : ℕ}
    → MasterSecret preMaster client server out a x → MasterSecret preMaster client server out b y → (a ≡ b) × (x ≡ y)
MasterSecret-one_outcome p q = (p.result ∙ sym q.result, p.output ∙ sym q.output)

-- `derive_key_block`
pub KeyBlock-one_outcome : {master client server out x y : List ℕ} {a b : ℕ}
    → KeyBlock master client server out a x → KeyBlock master client server out b y → (a ≡ b) × (x ≡ y)
KeyBlock-one_outcome p q = (p.result ∙ sym q.result, p.output ∙ sym q.output)

-- `finished_verify_data`
pub Finished-one_outcome : {master : List ℕ} {role : TlcpRole} {transcript out x y : List ℕ} {a b : ℕ}
    → Finished master role transcript out a x → Finished master role transcript out b y → (a ≡ b) × (x ≡ y)
Finished-one_outcome p q = (p.result ∙ sym q.result, p.output ∙ sym q.output)
