mod Trains
