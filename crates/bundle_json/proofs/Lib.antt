mod Turns
mod TextLaws
mod ValueLaws
mod CodeLaws
