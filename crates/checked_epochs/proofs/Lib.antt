mod Following
mod Leading
mod Beginning
mod Resting
mod Cutting
mod Opening
mod FirstEpochs
